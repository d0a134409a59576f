pub mod Sets
pub mod Laws
pub mod Fill
pub mod Levels
pub mod Settled
