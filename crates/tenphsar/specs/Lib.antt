pub mod Rows
pub mod Calls
pub mod Edits
pub mod Orders
pub mod Records
pub mod Screen
pub mod Loads
