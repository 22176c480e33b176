-- How far an entry reaches.
pub mod Reach
pub mod Bounds
