pub mod ListLemmas
pub mod StepLemmas
pub mod CodeLemmas
pub mod LawLemmas
