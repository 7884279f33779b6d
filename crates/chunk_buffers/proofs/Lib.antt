pub mod Padding
pub mod Cuts
pub mod Spans
