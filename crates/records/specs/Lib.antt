pub mod Bytes
pub mod Kinds
pub mod Record
pub mod Statements
pub mod Descriptions
pub mod Facts
