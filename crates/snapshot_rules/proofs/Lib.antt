pub mod Fronts
pub mod Shelves
