pub mod RunMarks
pub mod Turning
pub mod SideLaws
pub mod Finding
pub mod Pushing
pub mod Popping
pub mod PlaceLaws
pub mod Appending
