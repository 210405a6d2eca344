-- What the contracts of this crate say, in reading order.
pub mod Draw
pub mod Chip
pub mod LibraryText
pub mod NetlistText
pub mod code
