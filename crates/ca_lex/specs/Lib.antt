-- What the contracts of this crate say, in reading order.
pub mod Words
pub mod Physical
pub mod Lines
pub mod Length
pub mod LengthGrammar
pub mod FirstFault
pub mod Reading
pub mod code
