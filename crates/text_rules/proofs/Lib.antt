pub mod EditLemmas
pub mod Breaks
pub mod Places
pub mod TextLengths
pub mod DirtyLines
pub mod KindLines
