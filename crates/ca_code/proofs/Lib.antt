pub mod TokenLemmas
pub mod FilledLemmas
pub mod RuleLemmas
