pub mod AlikeLemmas
pub mod TraceLemmas
pub mod PlaceLemmas
pub mod DrivingLemmas
pub mod BrokenLemmas
