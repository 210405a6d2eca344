pub mod LineLemmas
pub mod OutputLemmas
pub mod FileLemmas
pub mod StageLemmas
