pub mod ChipLemmas
pub mod LineLemmas
pub mod AskedLemmas
pub mod ReplayLemmas
