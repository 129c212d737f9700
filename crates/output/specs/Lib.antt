pub mod Buffer
pub mod Outputs
