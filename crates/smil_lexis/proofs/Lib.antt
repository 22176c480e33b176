pub mod DigitSteps
pub mod TestedFronts
pub mod DecimalRoundTrip
pub mod WordFronts
pub mod Utf8Tests
pub mod CutPieces
pub mod TrimmedTexts
pub mod BareTexts
