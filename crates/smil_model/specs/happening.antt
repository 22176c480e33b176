-- What happens, and the diary of a presentation.
pub mod Queue
pub mod Keys
pub mod Groups
pub mod Resolution
