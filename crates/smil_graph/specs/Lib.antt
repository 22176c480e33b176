pub mod Components
pub mod Graph
pub mod Tables
pub mod Links
pub mod Places
pub mod Ranks
pub mod Reduced
