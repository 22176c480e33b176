pub mod LayerOrder
pub mod LayerPlaces
pub mod LayersSorted
