pub mod Tables
pub mod Shapes
