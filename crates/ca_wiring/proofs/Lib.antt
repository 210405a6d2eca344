pub mod ForestLemmas
pub mod SpanLemmas
pub mod JudgeLemmas
pub mod NumberLemmas
pub mod NetLemmas
pub mod SameLemmas
pub mod PinLemmas
pub mod WireLemmas
