-- What the contracts of this crate say, in reading order.
pub mod ChipReport
pub mod Summary
pub mod Grades
pub mod Found
pub mod GradeSummary
pub mod Laws
pub mod code
