pub mod LinesCut
pub mod EntryRoundTrip
pub mod EntriesWritable
pub mod SavedOutlineLines
pub mod DiaryLinesRead
pub mod WrittenDiaryAccepted
pub mod OnlyOwnDiary
