pub mod AttributeSteps
pub mod LastLevels
pub mod LastBranch
pub mod PushGrowsTree
pub mod TestsBlanked
pub mod PlainLines
