-- What the contracts of this crate say, in reading order.
pub mod Bridges
pub mod Good
pub mod Promise
pub mod Laws
