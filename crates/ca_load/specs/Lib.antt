-- What the contracts of this crate say, in reading order.
pub mod Files
pub mod Texts
pub mod Chips
pub mod Causes
pub mod code
