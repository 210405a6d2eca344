pub mod CodeLemmas
pub mod KeptLemmas
pub mod ProvenLemmas
pub mod VerdictLemmas
pub mod ViewLemmas
