-- What the contracts of this crate say, in reading order.
pub mod Groups
pub mod Homes
pub mod Reached
pub mod Resolved
pub mod code
