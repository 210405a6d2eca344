pub mod Appends
pub mod Changes
pub mod Gathers
pub mod DistinctNames
pub mod Parts
pub mod Shelves
pub mod LastFiles
