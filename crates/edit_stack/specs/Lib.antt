pub mod Element
pub mod Shown
pub mod Lists
