pub mod Appended
pub mod Current
pub mod Rows
pub mod Round
