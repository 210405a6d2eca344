pub mod ChipExaminer
pub mod code
