pub mod Front
pub mod Buffer
