pub mod FirstLines
pub mod Steps
