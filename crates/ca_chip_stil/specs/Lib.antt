-- What the contracts of this crate say, in reading order.
pub mod Sites
pub mod ChipStil
pub mod Laws
pub mod code
