-- Words of the code: what its invariants and private contracts say. No public claim rests on them.
pub mod Pairs
pub mod Marks
pub mod Ends
pub mod Members
pub mod Hands
