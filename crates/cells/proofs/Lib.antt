pub mod Counts
pub mod Places
pub mod Cells
pub mod Changes
pub mod Written
pub mod Sought
pub mod Settled
