pub mod Bytes
pub mod Fields
pub mod Parts
