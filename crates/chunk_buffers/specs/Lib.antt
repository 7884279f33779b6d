pub mod Buffer
pub mod Chunks
