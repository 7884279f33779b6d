pub mod Placed
pub mod Changes
pub mod Counts
pub mod Needs
pub mod Carrying
pub mod LineMarks
pub mod Asked
pub mod Staying
pub mod TextWeights
pub mod Counting
pub mod Ways
pub mod InTurn
pub mod State
pub mod Compact
pub mod View
pub mod Entries
mod Examples
