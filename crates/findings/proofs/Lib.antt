pub mod Items
pub mod Shows
pub mod Findings
pub mod Unread
