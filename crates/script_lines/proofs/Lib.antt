pub mod FieldLemmas
pub mod RowLemmas
pub mod RequestLemmas
pub mod ReadExamples
pub mod ProperLemmas
