pub mod Entries
pub mod Laws
pub mod Replayed
pub mod Steps
pub mod Verdict
