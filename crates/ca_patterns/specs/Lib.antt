-- What the contracts of this crate say, in reading order.
pub mod Patterns
pub mod Right
pub mod Stages
pub mod code
