pub mod ListLemmas
pub mod LoadLemmas
pub mod GateLemmas
pub mod TextLemmas
