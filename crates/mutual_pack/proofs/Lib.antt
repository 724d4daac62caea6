mod Entries
mod EquationsConvert
mod Examples
mod Flattening
mod HighEquations
pub mod InductionsUnfold
mod Lookups
pub mod PackedScoped
pub mod PackedTypes
pub mod Positive
pub mod RecursionsConvert
pub mod Runs
mod ScopedEquations
pub mod ScopedInductions
mod TagResults
pub mod Tags
mod TooHigh
pub mod Unfolding
