pub mod RunLemmas
pub mod EndLemmas
