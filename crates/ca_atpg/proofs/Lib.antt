pub mod AtpgLemmas
