pub mod ReadClockValues
pub mod ReadNames
pub mod ReadTimeLists
pub mod ReadLines
pub mod ResultFaults
