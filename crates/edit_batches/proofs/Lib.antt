pub mod Keys
pub mod Passes
pub mod TextPasses
pub mod Lengths
