-- What the contracts of this crate say, in reading order.
pub mod Benches
pub mod code
