pub mod Field
pub mod Calls
pub mod Orders
