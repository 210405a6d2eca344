pub mod CellTable
pub mod ChipTable
pub mod code
