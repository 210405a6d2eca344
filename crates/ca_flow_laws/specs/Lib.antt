-- What the contracts of this crate say, in reading order.
pub mod Same
pub mod Reported
pub mod Laws
pub mod Patterns
pub mod Limits
