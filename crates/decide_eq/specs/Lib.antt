pub mod Comparisons
pub mod DecisionEntries
pub mod DecisionLaws
pub mod Fitting
pub mod PlainFamilies
pub mod Statements
