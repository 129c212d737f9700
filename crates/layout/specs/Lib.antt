pub mod Tables
pub mod Held
pub mod Shapes
pub mod Picture
pub mod Access
