pub mod Tests
pub mod Bounded
pub mod Lists
