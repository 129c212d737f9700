pub mod Paid
pub mod Passes
