pub mod ValueLemmas
pub mod StartLemmas
pub mod StepLemmas
pub mod RoundLemmas
pub mod SettingLemmas
pub mod PairLemmas
pub mod UniqueLemmas
