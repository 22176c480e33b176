-- What a diary says.
pub mod Logs
pub mod Diary
pub mod Clocks
pub mod Plays
pub mod Lawful
