pub mod NumberOrders
pub mod GrowingTexts
pub mod RisingLists
pub mod SerialTables
pub mod PlaceSets
pub mod FirstPlaces
pub mod Tournaments
pub mod TextTables
