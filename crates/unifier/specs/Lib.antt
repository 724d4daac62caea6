pub mod CodeGroups
pub mod CodeFits
