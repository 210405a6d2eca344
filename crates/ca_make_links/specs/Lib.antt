-- What the laws of linking generated chips say.
pub mod Laws
