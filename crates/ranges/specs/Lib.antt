pub mod First
pub mod Opening
pub mod Ranges
