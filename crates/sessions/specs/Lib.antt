pub mod Standing
pub mod Bytes
pub mod Told
pub mod Joint
