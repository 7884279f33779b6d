pub mod SettledMarks
pub mod OfLines
pub mod KeptRuns
pub mod Parts
pub mod Staying
pub mod Walking
pub mod Ways
