pub mod Agreement
pub mod Reuse
pub mod Following
pub mod Edits
pub mod Prices
pub mod Ways
