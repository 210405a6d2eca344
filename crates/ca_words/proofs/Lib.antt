pub mod BudgetLemmas
pub mod PrefixLemmas
pub mod WordLemmas
