pub mod ClockRoundTrip
pub mod ClockLimits
