-- What the contracts of this crate say, in reading order.
pub mod BridgeReport
pub mod Summary
pub mod Laws
