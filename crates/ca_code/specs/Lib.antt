pub mod Tokens
pub mod Filled
pub mod SearchRules
pub mod Ends
pub mod Laws
