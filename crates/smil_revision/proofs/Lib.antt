pub mod AgreedMarks
pub mod AlikeIds
pub mod AlikeReferences
pub mod EditedCopies
pub mod LineFaults
pub mod OrderReadings
pub mod TreeFaults
