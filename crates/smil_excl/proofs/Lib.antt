pub mod QueuePlaces
pub mod QueueEntries
pub mod QueueDistinct
pub mod QueueMembers
