pub mod Fits
pub mod Walk
