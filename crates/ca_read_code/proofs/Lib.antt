pub mod CodeLemmas
pub mod WalkLemmas
pub mod TurnLemmas
pub mod StrideLemmas
pub mod ReadLemmas
