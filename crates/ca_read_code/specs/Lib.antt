pub mod ClaimedCode
pub mod Examined
pub mod CodeEnd
pub mod code
