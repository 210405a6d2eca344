pub mod Targets
pub mod Laws
pub mod code
