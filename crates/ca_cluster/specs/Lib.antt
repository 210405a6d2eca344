pub mod Bridges
pub mod Clusters
pub mod Laws
pub mod code
