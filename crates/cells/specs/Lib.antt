pub mod Laid
pub mod Layout
pub mod Changed
pub mod Stored
