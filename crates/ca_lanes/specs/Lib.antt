pub mod Plane
pub mod Choice
pub mod GoodRows
pub mod Netlist
pub mod Loaded
pub mod Planes
pub mod Screened
pub mod code
