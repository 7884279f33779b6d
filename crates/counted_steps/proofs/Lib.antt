pub mod Edits
pub mod Heights
