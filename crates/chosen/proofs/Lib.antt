pub mod Carrying
pub mod Choosing
