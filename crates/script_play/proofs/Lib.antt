pub mod SupplyLemmas
pub mod LengthLemmas
