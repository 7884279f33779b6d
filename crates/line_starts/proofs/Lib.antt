pub mod Starts
pub mod Blocks
