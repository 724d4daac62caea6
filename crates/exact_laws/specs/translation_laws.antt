pub mod EntryLaws
pub mod Laws
