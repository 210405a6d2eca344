-- What the contracts of this crate say, in reading order.
pub mod Chip
pub mod File
pub mod Laws
pub mod code
