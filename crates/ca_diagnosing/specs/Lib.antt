-- What the contracts of this crate say, in reading order.
pub mod Diagnosing
pub mod code
