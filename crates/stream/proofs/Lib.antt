pub mod Parts
pub mod Settled
pub mod Turns
pub mod Worked
