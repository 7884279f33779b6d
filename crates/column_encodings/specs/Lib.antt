pub mod Columns
pub mod Walk
mod Examples
