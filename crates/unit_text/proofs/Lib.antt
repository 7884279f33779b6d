pub mod Chars
pub mod Fronts
pub mod Paired
pub mod WithEndings
pub mod KindLaws
