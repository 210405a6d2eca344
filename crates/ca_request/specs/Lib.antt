pub mod Vectors
pub mod Asked
