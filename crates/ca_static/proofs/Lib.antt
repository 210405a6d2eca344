pub mod WaveLemmas
pub mod StaticLemmas
pub mod TableLemmas
