pub mod OrderedLists
pub mod TimeOrderTests
pub mod Thresholds
pub mod SearchParts
pub mod IntervalSearch
pub mod EndLimit
