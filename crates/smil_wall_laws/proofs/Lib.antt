pub mod OneRoot
pub mod RootBeginZero
pub mod UnpausedAncestors
pub mod ListMembers
pub mod RootReferenceTime
pub mod RewrittenRoundTrip
pub mod TrimmedText
