pub mod Found
pub mod Heights
pub mod Selected
pub mod Settled
pub mod Shown
