-- What the contracts of this crate say, in reading order.
pub mod Diagnosed
pub mod Texts
pub mod Laws
