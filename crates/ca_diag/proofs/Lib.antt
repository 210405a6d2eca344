mod LawLemmas
mod JudgeLemmas
mod FailingLemmas
mod ScreenLemmas
mod PassLemmas
mod OpenLemmas
