pub mod Readings
pub mod Places
pub mod ElementPlaces
pub mod Refusals
pub mod Tallies
