pub mod DiagnoseLemmas
pub mod OneLemmas
