mod ListRanges
mod FirstLineFeed
mod ScanLemmas
mod ReadLemmas
pub mod LineLemmas
pub mod HistoryLemmas
