pub mod ChipDefects
pub mod code
