pub mod KeyOrder
pub mod KeySets
pub mod KeySerials
