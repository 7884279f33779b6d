pub mod Owners
pub mod Set
