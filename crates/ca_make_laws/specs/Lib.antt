-- What the laws of generated chips say, in reading order.
pub mod Cells
pub mod ChipTree
pub mod ChipNetlist
pub mod Laws
