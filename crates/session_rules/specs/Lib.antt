pub mod Session
pub mod Step
pub mod Script
pub mod Apart
mod Examples
