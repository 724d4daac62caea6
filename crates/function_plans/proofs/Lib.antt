pub mod Columns
pub mod HelperChains
pub mod Orders
pub mod PlansMade
pub mod Refining
pub mod Removed
pub mod SameChoices
pub mod Starts
