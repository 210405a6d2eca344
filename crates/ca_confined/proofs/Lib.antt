pub mod EndLemmas
pub mod NextLemmas
pub mod DriverLemmas
pub mod ScopeLemmas
pub mod ReachLemmas
pub mod SettleLemmas
pub mod ConfinedLemmas
