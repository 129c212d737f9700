pub mod Label
pub mod Reader
pub mod Writer
pub mod Cards
