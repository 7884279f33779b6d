pub mod Stack
pub mod Tags
mod Examples
