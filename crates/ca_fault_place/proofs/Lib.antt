pub mod TouchedLemmas
pub mod WithinLemmas
pub mod UseLemmas
pub mod BridgeLemmas
pub mod KnownLemmas
pub mod NetLemmas
