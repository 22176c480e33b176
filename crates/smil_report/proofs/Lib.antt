pub mod Growing
pub mod BufferPlaces
