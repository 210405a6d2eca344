-- What the contracts of this crate say.
pub mod LastTable
pub mod code
