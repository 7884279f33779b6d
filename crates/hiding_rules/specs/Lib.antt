pub mod Marks
pub mod Hidden
pub mod States
pub mod Known
pub mod Rows
mod Examples
