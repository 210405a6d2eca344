-- What the contracts of this crate say, in reading order.
pub mod Plane
pub mod Trits
