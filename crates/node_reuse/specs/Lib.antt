pub mod OldText
pub mod Texts
pub mod LineMarks
pub mod Ahead
pub mod Reading
pub mod Reader
pub mod Paying
pub mod Calls
pub mod ParsedTree
mod Examples
