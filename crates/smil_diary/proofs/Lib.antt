pub mod TestChoices
pub mod PlaceLists
pub mod LastPlaces
pub mod ElementIndex
pub mod EntryCounts
pub mod HistoryReadings
pub mod IndexRows
pub mod IndexNoted
