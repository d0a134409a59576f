pub mod Written
pub mod Asked
pub mod Extents
pub mod Outcomes
pub mod Settled
pub mod Computed
pub mod Worked
