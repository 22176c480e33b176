pub mod ChildEndFolds
pub mod TimeOrders
pub mod ChildSummaries
pub mod NamedChild
