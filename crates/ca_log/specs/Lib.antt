-- What the contracts of this crate say, in reading order.
pub mod LogText
pub mod code
