pub mod BitLemmas
pub mod ValueLemmas
