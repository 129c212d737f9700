pub mod Rooms
pub mod Blocks
pub mod Walks
