pub mod Spans
pub mod Shown
mod Examples
