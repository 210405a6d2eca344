-- Words of the code: what its invariants and private contracts say. No public claim rests on them.
pub mod ChipBench
pub mod FlipBench
pub mod Untestable
pub mod SearchEnd
