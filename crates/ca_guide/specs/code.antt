-- Words of the code: what its invariants and private contracts say. No public claim rests on them.
pub mod NumberSet
pub mod Flood
pub mod Visit
pub mod Seen
pub mod Support
pub mod Guide
