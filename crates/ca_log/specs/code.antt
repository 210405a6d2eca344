-- Words of the code: what its invariants and private contracts say. No public claim rests on them.
pub mod Lookup
pub mod Into
