pub mod Numbered
pub mod Open
pub mod Gives
pub mod Branches
pub mod Steps
pub mod Migration
pub mod Written
