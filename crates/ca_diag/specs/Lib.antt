-- What the contracts of this crate say, in reading order.
pub mod Diagnosis
pub mod Candidates
pub mod Laws
pub mod code
