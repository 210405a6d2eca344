-- Words of the code: what its invariants and private contracts say. No public claim rests on them.
pub mod Walk
pub mod Drivers
pub mod Feeding
pub mod Paths
pub mod Controls
pub mod Reading
pub mod Ends
pub mod Instances
pub mod Kept
pub mod Wired
