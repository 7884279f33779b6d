pub mod State
pub mod Calls
pub mod Losing
pub mod Prepared
pub mod Errors
pub mod Examples
