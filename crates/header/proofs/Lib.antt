pub mod Reading
pub mod Verdicts
