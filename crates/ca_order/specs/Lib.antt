-- What the contracts of this crate say, in reading order.
pub mod Lines
pub mod Order
pub mod OrderFault
pub mod Allowed
pub mod Laws
pub mod code
