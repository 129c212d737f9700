pub mod Keeping
pub mod Answers
