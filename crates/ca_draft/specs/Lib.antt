pub mod OnWires
pub mod code
