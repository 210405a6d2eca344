-- Words of the code: what its invariants and private contracts say. No public claim rests on them.
pub mod Found
pub mod Asked
pub mod Sought
pub mod Standing
