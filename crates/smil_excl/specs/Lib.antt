pub mod QueueState
pub mod Laws
