pub mod GuideSeen
pub mod ChipJudge
pub mod Attempt
pub mod code
