mod Boxed
pub mod SmallPlaces
mod Handles
pub mod Others
pub mod JoinedTexts
pub mod Refusals
pub mod Searches
pub mod ColumnBounds
mod Stands
mod JointStands
pub mod BatchLemmas
mod TellingStands
mod Collected
pub mod Utf8Laws
pub mod Further
pub mod CountedOps
mod Calls
mod Extents
mod DocsInTurn
mod OutOfRange
mod OverlapPasses
mod Repeats
