pub mod CodeFamilies
pub mod Computing
pub mod Entries
mod Examples
pub mod PlainShapes
pub mod Proving
pub mod ScopedComparisons
pub mod ScopedDecisions
pub mod SmallTerms
pub mod Targets
pub mod TooHigh
