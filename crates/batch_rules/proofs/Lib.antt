pub mod Order
pub mod Standing
pub mod Answers
pub mod Inverses
pub mod Backwards
pub mod Pairs
pub mod Keeping
