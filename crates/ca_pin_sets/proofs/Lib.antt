pub mod ForestLemmas
pub mod FoldLemmas
pub mod LinkLemmas
pub mod OwnerLemmas
pub mod ReachLemmas
pub mod RawLemmas
pub mod StayLemmas
