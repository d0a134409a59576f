pub mod Outcomes
pub mod Served
pub mod Settled
pub mod Shapes
pub mod Verdicts
