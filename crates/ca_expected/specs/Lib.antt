pub mod Expected
pub mod Wrong
pub mod Laws
pub mod code
