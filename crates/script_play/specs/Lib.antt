pub mod Lines
pub mod Draws
pub mod Script
pub mod Supply
pub mod Tallies
mod Examples
