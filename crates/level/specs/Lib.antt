pub mod Label
pub mod Order
pub mod Laws
