-- Words of the code: what its invariants and private contracts say. No public claim rests on them.
pub mod Firsts
pub mod Fixed
pub mod Masks
pub mod Spread
pub mod Region
pub mod Sure
pub mod Inside
pub mod Lanes
pub mod Wide
