pub mod Locality
pub mod StateLemmas
pub mod GroupLemmas
pub mod TouchedLemmas
pub mod MeasureLemmas
pub mod LimitLemmas
