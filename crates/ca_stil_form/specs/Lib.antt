-- What the contracts of this crate say, in reading order.
pub mod Form
pub mod Tokens
pub mod Grammar
pub mod Frame
pub mod Pattern
pub mod Whole
pub mod Value
pub mod Reading
pub mod Allowed
pub mod code
