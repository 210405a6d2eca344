pub mod PatternLemmas
pub mod OneLemmas
