pub mod LedLemmas
pub mod ServeLemmas
pub mod RunLemmas
pub mod ObeyLemmas
pub mod CommandLineLemmas
pub mod PlayLemmas
mod ScriptExamples
