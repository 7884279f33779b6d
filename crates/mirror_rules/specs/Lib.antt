pub mod Mirrors
pub mod Following
mod Examples
