-- What is shown, and what orders do.
pub mod Views
pub mod Histories
pub mod Sandwich
pub mod Orders
pub mod Lines
pub mod Answers
