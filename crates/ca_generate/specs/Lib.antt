-- What the contracts of this crate say, in reading order.
pub mod Outcome
pub mod Known
pub mod GenerateFault
pub mod Laws
pub mod code
