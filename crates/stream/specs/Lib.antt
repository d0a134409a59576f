pub mod Step
pub mod Facts
pub mod Stream
