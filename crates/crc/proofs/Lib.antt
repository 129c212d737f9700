pub mod Crc
pub mod Entries
pub mod Sums
