pub mod Answering
pub mod Joining
pub mod Stepping
pub mod Separate
pub mod CutLemmas
pub mod ReplyLemmas
pub mod DecidedLemmas
