pub mod Walking
pub mod Replacing
