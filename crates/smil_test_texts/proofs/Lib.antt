pub mod QueueLengths
pub mod RisingTests
