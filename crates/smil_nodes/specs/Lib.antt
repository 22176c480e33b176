pub mod Agenda
pub mod Noted
pub mod Slots
pub mod Schedule
pub mod Endings
pub mod Undo
pub mod Marked
pub mod Work
