-- What the contracts of this crate say, in reading order.
pub mod Verdicts
pub mod Proven
pub mod Laws
pub mod code
