pub mod FreeWay
pub mod Judged
pub mod Outcome
pub mod Ends
pub mod code
