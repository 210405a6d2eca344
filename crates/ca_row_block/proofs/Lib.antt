pub mod DigitLemmas
pub mod RowLemmas
