pub mod KindText
pub mod FaultLine
pub mod code
