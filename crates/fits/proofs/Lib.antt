pub mod Prices
pub mod Means
pub mod Walk
pub mod FirstItem
