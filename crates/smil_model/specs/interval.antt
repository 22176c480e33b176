-- Instance times, durations and intervals.
pub mod Instances
pub mod Durations
pub mod Intervals
pub mod Current
