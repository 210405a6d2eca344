-- Words of the code: what its invariants and private contracts say. No public claim rests on them.
pub mod Marks
pub mod Order
pub mod Sweep
pub mod Support
pub mod OpenNets
pub mod PinRows
pub mod Ends
pub mod ChipExaminer
pub mod FlipSim
