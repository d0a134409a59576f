pub mod Holding
pub mod Stream
