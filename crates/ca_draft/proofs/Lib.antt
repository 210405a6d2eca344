pub mod OutputLemmas
pub mod InstanceLemmas
pub mod HeaderLemmas
pub mod MarkLemmas
pub mod DraftLemmas
pub mod ConstantLemmas
pub mod LinkLemmas
