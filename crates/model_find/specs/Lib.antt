pub mod Ahead
pub mod Matching
pub mod Searching
mod Examples
