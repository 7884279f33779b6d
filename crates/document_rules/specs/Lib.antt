pub mod Refusals
pub mod Outcomes
pub mod InTurn
pub mod Document
pub mod Paired
pub mod Brackets
pub mod Snapshots
pub mod Stops
pub mod Columns
mod Examples
mod StopExamples
