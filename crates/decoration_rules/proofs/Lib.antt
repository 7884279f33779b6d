pub mod MoveLemmas
pub mod OrderLemmas
pub mod MarkLists
pub mod InText
pub mod LineLemmas
pub mod Contents
pub mod LineMoves
pub mod Recasts
