-- Words of the code: what its invariants and private contracts say. No public claim rests on them.
pub mod Simulator
pub mod Marking
pub mod Changes
pub mod Current
pub mod Network
pub mod Loaded
pub mod Networks
pub mod Cache
pub mod Cells
pub mod Kept
