-- Words of the code: what its invariants and private contracts say. No public claim rests on them.
pub mod Whole
pub mod Views
pub mod Groups
pub mod Frames
pub mod Long
pub mod Text
pub mod Kept
