pub mod Declarations
pub mod Drafts
pub mod Families
pub mod Functions
pub mod MutualFamilies
pub mod Reports
pub mod Steps
