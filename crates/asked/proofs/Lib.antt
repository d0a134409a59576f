pub mod Lists
pub mod Levelled
pub mod Listing
pub mod Settled
