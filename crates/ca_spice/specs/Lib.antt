-- What the contracts of this crate say, in reading order.
pub mod Names
pub mod Card
pub mod PinInfo
pub mod Mos
pub mod OpenCell
pub mod Reading
pub mod Called
pub mod SpiceFault
pub mod Views
pub mod Laws
pub mod Writing
pub mod code
