pub mod VerifyLemmas
pub mod OneLemmas
