mod RunLemmas
mod PlaceLemmas
pub mod CoverLemmas
mod FitLemmas
