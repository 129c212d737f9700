pub mod First
pub mod Opening
pub mod Items
pub mod Slots
pub mod FirstItem
pub mod Highest
