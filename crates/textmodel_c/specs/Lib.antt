pub mod Held
pub mod Documents
pub mod Statuses
pub mod Told
pub mod Rules
pub mod Utf8
pub mod Columns
pub mod JointOps
pub mod Tellings
pub mod NextChange
pub mod Mirroring
pub mod Faults
mod Examples
