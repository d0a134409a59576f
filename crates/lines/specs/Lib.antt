pub mod Text
pub mod Lines
pub mod Written
pub mod Writes
