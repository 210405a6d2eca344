pub mod GradeLemmas
