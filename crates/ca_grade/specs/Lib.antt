-- What the contracts of this crate say, in reading order.
pub mod Graded
pub mod GradeFault
pub mod code
