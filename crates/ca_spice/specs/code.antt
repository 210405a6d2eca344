-- Words of the code: what its invariants and private contracts say. No public claim rests on them.
pub mod Names
pub mod Mos
pub mod SpiceFault
pub mod Kept
pub mod Named
pub mod Views
