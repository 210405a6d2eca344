pub mod CellTableLemmas
pub mod ChipTableLemmas
pub mod BareLemmas
