pub mod Refusals
pub mod Group
pub mod Joint
pub mod Going
pub mod Outcomes
pub mod Together
pub mod Shared
mod Examples
