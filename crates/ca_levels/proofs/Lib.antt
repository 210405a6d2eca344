pub mod LeadLemmas
pub mod WayLemmas
pub mod AdvanceLemmas
pub mod ResponseLemmas
