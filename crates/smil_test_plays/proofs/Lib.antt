pub mod ReadAttributesFit
pub mod PlaysLawful
