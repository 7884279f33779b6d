pub mod OpLemmas
pub mod GoesLemmas
pub mod FollowLemmas
pub mod StandingLemmas
mod MirrorLemmas
pub mod JointLemmas
pub mod AnswerLemmas
