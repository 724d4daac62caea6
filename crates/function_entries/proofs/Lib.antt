pub mod Constructors
pub mod EntriesMade
pub mod Joining
pub mod SubtreeNames
pub mod TreesMade
