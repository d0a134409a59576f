pub mod Decimals
pub mod Settled
pub mod Worked
pub mod Writing
