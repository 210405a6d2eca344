pub mod TargetLemmas
pub mod NumberLemmas
pub mod PutLemmas
pub mod PartLemmas
pub mod JudgedLemmas
