pub mod Skips
pub mod Cards
