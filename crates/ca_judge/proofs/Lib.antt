pub mod EndLemmas
pub mod StandingLemmas
pub mod SeenLemmas
pub mod StepLemmas
pub mod OutputLemmas
pub mod JudgeLemmas
pub mod ScreenLemmas
pub mod AttemptLemmas
