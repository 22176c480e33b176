pub mod Records
pub mod Tellings
pub mod Words
