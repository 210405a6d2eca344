-- What the contracts of this crate say, in reading order.
pub mod Replay
pub mod Laws
pub mod code
