-- What the contracts of this crate say, in reading order.
pub mod Laws
