-- What the contracts of this crate say, in reading order.
pub mod Tables
pub mod Seen
pub mod Found
pub mod Spans
pub mod code
