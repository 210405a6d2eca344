pub mod OnChip
pub mod Replay
pub mod Lines
pub mod code
