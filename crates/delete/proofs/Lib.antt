pub mod Deleted
pub mod Emptying
pub mod Settled
