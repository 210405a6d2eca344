-- What the contracts of this crate say, in reading order.
pub mod Table
pub mod Chain
pub mod ChainFault
pub mod code
