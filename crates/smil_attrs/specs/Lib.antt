pub mod Filled
pub mod Reads
pub mod Remainder
pub mod Writable
pub mod Within
pub mod Repeats
