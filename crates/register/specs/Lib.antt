pub mod Calls
pub mod Facts
