-- Words of the code: what its invariants and private contracts say. No public claim rests on them.
pub mod Choice
pub mod Allowed
pub mod Given
pub mod Evaluated
pub mod Set
pub mod Sweep
