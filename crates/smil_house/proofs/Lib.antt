pub mod NameMarks
pub mod PresentationsByName
