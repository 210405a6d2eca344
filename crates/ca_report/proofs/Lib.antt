mod ReportLemmas
pub mod RowLemmas
