pub mod Refusals
pub mod Batches
pub mod Events
mod Examples
