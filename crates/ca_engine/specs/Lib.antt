pub mod ChipDefects
pub mod ChipTask
pub mod ChipBench
pub mod code
