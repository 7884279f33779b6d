pub mod Tree
pub mod TreeCode
pub mod Items
pub mod Weights
pub mod Leaves
pub mod Told
pub mod Places
mod Examples
pub mod Found
pub mod Parts
