pub mod Shifting
pub mod Stepping
pub mod Sized
pub mod Worked
pub mod Settled
