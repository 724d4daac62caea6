pub mod EquationScopes
pub mod LeftShowing
pub mod OwnMatches
pub mod PartNumbers
pub mod PlannedClauses
pub mod ProvedClauses
pub mod SameRecursion
pub mod ShownTerms
