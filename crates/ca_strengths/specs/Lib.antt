-- What the contracts of this crate say, in reading order.
pub mod StrengthText
pub mod code
