pub mod NumberLemmas
pub mod CutLemmas
pub mod FreeLemmas
pub mod WordLemmas
pub mod LineLemmas
pub mod SameLemmas
