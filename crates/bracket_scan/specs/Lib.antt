pub mod Starts
pub mod Firsts
pub mod Texts
pub mod Parts
