pub mod LineLemmas
pub mod NodeLemmas
pub mod EventLemmas
pub mod OrderLemmas
pub mod PlaceLemmas
pub mod AllowedLemmas
