pub mod Adding
pub mod Passing
pub mod Owing
