pub mod Sizes
pub mod Descriptions
pub mod Settled
