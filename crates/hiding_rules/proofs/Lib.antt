pub mod NoMarks
pub mod NoBlock
pub mod InLine
pub mod Sizes
pub mod Settling
pub mod Runs
pub mod Rows
