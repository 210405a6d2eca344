pub mod PartLemmas
pub mod JoinLemmas
pub mod LoopLemmas
pub mod HeaderLemmas
pub mod DriverLemmas
pub mod RuleLemmas
pub mod ChainLemmas
