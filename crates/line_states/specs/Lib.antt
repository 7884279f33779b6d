pub mod Lines
pub mod Settling
pub mod Outcome
pub mod Gathered
pub mod Owned
pub mod Walk
