pub mod Clocks
pub mod NodeClocks
pub mod Laws
