pub mod CellsState
pub mod Standings
pub mod Shown
pub mod Evaluated
pub mod NewEntries
pub mod Settling
