-- Words of the code: what its invariants and private contracts say. No public claim rests on them.
pub mod Come
pub mod Way
pub mod Advance
pub mod Reached
