pub mod Inverter
pub mod Bare
pub mod Tied
pub mod Blind
pub mod ByHand
pub mod Keeper
