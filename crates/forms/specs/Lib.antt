pub mod Numbers
pub mod Formed
