pub mod Simulated
pub mod OneRun
pub mod code
