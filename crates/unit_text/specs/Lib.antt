pub mod Units
pub mod Text
pub mod Endings
pub mod Kinds
mod Examples
