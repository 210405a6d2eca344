pub mod Cells
pub mod Outputs
pub mod Defects
pub mod Causes
pub mod Stages
pub mod Lines
pub mod code
