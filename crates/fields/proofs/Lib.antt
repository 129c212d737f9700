pub mod Tables
pub mod Fields
pub mod Orders
