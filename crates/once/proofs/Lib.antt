pub mod Bits
pub mod Marks
pub mod Walk
pub mod Means
pub mod FirstItem
