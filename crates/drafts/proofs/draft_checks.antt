pub mod EnterableDrafts
pub mod UnmarkedEntries
