pub mod Room
pub mod Reading
pub mod Text
pub mod Views
pub mod Remembering
pub mod LookUps
pub mod Edits
pub mod Again
pub mod Along
mod Examples
pub use Rattle.piece_tree.specs.Costs
pub mod Rewriting
