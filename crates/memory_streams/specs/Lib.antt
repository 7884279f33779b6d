pub mod Plan
pub mod Planned
pub mod Tray
mod Examples
