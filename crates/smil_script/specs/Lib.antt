pub mod Copies
pub mod Entries
pub mod Gives
pub mod Loads
pub mod Named
