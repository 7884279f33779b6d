pub mod Starts
mod Examples
