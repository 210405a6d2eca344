pub mod Seen
pub mod Simulator
pub mod Laws
pub mod Current
pub mod Changes
pub mod Marking
pub mod Network
pub mod code
