pub mod Streams
pub mod Fresh
pub mod Writer
mod Examples
