-- What the contracts of this crate say, in reading order.
pub mod Groups
pub mod Work
pub mod Limits
pub mod code
