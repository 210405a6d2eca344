-- Words of the code: what its invariants and private contracts say. No public claim rests on them.
pub mod Drivers
pub mod Next
pub mod Clear
pub mod Scope
pub mod Settle
pub mod Kept
pub mod Ends
