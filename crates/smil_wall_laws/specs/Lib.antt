pub mod References
pub mod Rewritten
