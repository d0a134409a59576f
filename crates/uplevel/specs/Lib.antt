pub mod Listed
pub mod Raising
pub mod Raised
