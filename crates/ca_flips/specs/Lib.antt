-- What the contracts of this crate say, in reading order.
pub mod Static
pub mod Flips
pub mod Known
pub mod Laws
