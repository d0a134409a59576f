pub mod Sought
pub mod Sets
pub mod Once
pub mod Starts
pub mod Notes
pub mod Settled
