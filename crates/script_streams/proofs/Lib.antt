pub mod StreamLaws
pub mod WriterLemmas
