-- Documents.
pub mod Limits
pub mod Document
pub mod Words
pub mod Texts
pub mod Defaults
pub mod Values
pub mod Valid
pub mod Edits
pub mod Closure
pub mod Dependencies
