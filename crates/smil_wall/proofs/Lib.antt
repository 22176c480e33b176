pub mod CalendarDays
pub mod RewrittenLines
pub mod RewriteColumns
