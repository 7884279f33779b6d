pub mod Buckets
pub mod FirstUnits
pub mod Texts
pub mod Scanning
pub mod Parts
pub mod Passing
