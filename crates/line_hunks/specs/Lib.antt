pub mod Run
pub mod Weave
pub mod Adding
pub mod Sides
pub mod Runs
pub mod Places
pub mod Numbers
pub mod Hunks
