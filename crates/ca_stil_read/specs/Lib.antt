-- What the contracts of this crate say, in reading order.
pub mod Line
pub mod Onward
pub mod Plan
pub mod Whole
pub mod Groups
pub mod Text
pub mod Kept
pub mod code
