-- Words of the code: what its invariants and private contracts say. No public claim rests on them.
pub mod VerilogFault
pub mod Known
pub mod Views
pub mod Kept
