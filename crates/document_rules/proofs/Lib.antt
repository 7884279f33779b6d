pub mod Places
pub mod RowLengths
pub mod PairedEndings
pub mod PairedStates
pub mod InTurn
