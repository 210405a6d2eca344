pub mod Budget
pub mod Words
pub mod Command
pub mod code
