pub mod Turns
pub mod Texts
