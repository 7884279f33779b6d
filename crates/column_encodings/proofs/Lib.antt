pub mod Characters
pub mod Places
pub mod There
pub mod Back
pub mod Outside
pub mod Laws
pub mod Lengths
pub mod Utf16
mod Ascii
mod Blocks
