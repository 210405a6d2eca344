-- Words of the code: what its invariants and private contracts say. No public claim rests on them.
pub mod Joined
pub mod Pins
pub mod Spans
pub mod Forest
pub mod Numbers
