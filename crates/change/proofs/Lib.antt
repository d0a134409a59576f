pub mod Answers
pub mod Ended
pub mod Known
pub mod Numbers
pub mod Pairs
pub mod Settled
pub mod Sought
