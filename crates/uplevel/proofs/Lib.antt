pub mod Borrowing
pub mod Entities
pub mod Settled
pub mod Sole
pub mod Upfaults
pub mod Upformed
pub mod Uplevelled
