-- What the contracts of this crate say, in reading order.
pub mod Chip
pub mod Words
pub mod Groups
pub mod Frame
pub mod Pair
pub mod Text
pub mod code
