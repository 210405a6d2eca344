pub mod Tree
pub mod Symbols
pub mod Names
pub mod Rules
pub mod TreeNetlist
pub mod Laws
pub mod Example
