pub mod PlanLemmas
pub mod SupplyLemmas
