pub mod Editing
pub mod ItemCounts
pub mod References
pub mod Refusing
