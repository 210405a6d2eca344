-- What the contracts of this crate say, in reading order.
pub mod ChipRun
pub mod code
