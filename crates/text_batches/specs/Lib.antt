pub mod Needs
pub mod Growth
mod Examples
