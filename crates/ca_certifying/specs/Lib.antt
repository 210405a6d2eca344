-- What the contracts of this crate say, in reading order.
pub mod Certified
pub mod Certifying
