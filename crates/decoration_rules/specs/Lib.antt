pub mod Moves
pub mod Marks
pub mod Lines
pub mod LineMoves
pub mod Recasts
pub mod Refusals
pub mod Decorations
mod Examples
mod LineMoveExamples
