pub mod Inserted
pub mod Settled
