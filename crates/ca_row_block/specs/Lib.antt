-- What the contracts of this crate say, in reading order.
pub mod Rows
pub mod Masks
pub mod Room
pub mod code
