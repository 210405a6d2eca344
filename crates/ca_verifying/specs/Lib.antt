-- What the contracts of this crate say, in reading order.
pub mod Verifying
pub mod code
