pub mod Confined
pub mod code
