pub mod AlikeNames
pub mod ExactEntries
pub mod MadeParts
