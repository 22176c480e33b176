pub mod Preferences
pub mod Choices
pub mod Trees
pub mod Gives
pub mod Laws
