pub mod Occurrences
pub mod Replacing
mod Examples
