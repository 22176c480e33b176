pub mod OwnDiaryAccepted
pub mod AgreeingFronts
pub mod ReplaySteps
pub mod LeastKeys
pub mod ReplayCourses
pub mod StepCounts
pub mod VerdictsExact
pub mod ResolutionSteps
