pub mod Errors
pub mod State
pub mod Compact
pub mod History
pub mod Edited
pub mod Replaced
pub mod Ways
pub mod Shelving
pub mod Opened
pub mod Prepared
pub mod Going
pub mod Decorating
mod Examples
pub mod Questions
