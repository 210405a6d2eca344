-- What the contracts of this crate say, in reading order.
pub mod Possible
pub mod Laws
pub mod Inside
pub mod Vectors
pub mod code
