pub mod Places
pub mod Inherited
pub mod TreeFields
pub mod Kin
pub mod Outline
pub mod Outcomes
pub mod Refusals
