pub mod Labels
pub mod Undo
pub mod Cards
pub mod Answers
pub mod Arrivals
