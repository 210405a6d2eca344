pub mod Usage
pub mod Finished
pub mod Fault
pub mod Complete
pub mod Ends
pub mod Answer
pub mod code
