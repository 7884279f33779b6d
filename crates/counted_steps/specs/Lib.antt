pub mod Edited
pub mod Weights
