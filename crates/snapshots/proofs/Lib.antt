pub mod Spelling
pub mod Fronts
pub mod Flat
pub mod Places
pub mod Growth
