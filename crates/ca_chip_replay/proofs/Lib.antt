pub mod VectorLemmas
pub mod SameLemmas
pub mod InputLemmas
pub mod ReadyLemmas
