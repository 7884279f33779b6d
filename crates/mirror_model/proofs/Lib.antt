pub mod Misfits
pub mod Carries
pub mod Following
