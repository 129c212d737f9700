pub mod Whole
pub mod Walks
