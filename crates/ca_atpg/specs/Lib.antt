pub mod Atpg
