pub mod Setting
pub mod Settled
pub mod Updated
