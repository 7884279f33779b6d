pub mod Behind
pub mod Carving
pub mod Laid
pub mod Pages
pub mod Rows
pub mod Showing
pub mod Steps
