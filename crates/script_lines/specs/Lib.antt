pub mod Reading
pub mod Fields
pub mod Decorations
pub mod Brackets
pub mod Marks
pub mod Rows
pub mod EditCommands
pub mod DecorationCommands
pub mod SearchCommands
pub mod Commands
pub mod Requests
pub mod Proper
pub mod Replies
mod Examples
