mod Places
mod Columns
mod Entities
mod Passes
pub mod Settled
