pub mod RowLemmas
pub mod ReadLemmas
pub mod TableLemmas
pub mod LinkLemmas
pub mod RuleLemmas
pub mod SameLemmas
pub mod WholeLemmas
pub mod SoundLemmas
