pub mod Concerned
pub mod Unconcerned
