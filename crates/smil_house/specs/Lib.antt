pub mod House
pub mod Marks
pub mod Next
pub mod Screen
