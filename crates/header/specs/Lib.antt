pub mod Front
pub mod Parse
pub mod Loads
pub mod Judge
