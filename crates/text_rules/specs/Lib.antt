pub mod Lines
pub mod Breaks
pub mod LineEndings
pub mod Positions
pub mod Edits
pub mod Dirty
mod Examples
