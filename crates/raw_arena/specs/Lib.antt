pub mod Arena
pub mod Fields
pub mod Links
pub mod NodeLends
