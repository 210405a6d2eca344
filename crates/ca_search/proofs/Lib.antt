pub mod WalkLemmas
pub mod StepLemmas
pub mod TrailLemmas
pub mod WayLemmas
pub mod EndLemmas
