pub mod Bits
pub mod Once
pub mod Walks
