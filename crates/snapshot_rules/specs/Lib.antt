pub mod Refusals
pub mod Snapshots
mod Examples
