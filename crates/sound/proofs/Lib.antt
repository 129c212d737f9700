pub mod Lent
pub mod Means
pub mod Walks
