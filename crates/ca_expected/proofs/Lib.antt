pub mod PushLemmas
pub mod WholeLemmas
pub mod WrongLemmas
