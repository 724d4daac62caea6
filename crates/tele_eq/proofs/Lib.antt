pub mod Calls
pub mod CarriedGoals
pub mod CarriedTerms
pub mod Carrying
pub mod DependenceOrder
pub mod DraftScopes
mod Examples
pub mod Growing
pub mod OnReflexivities
pub mod Positions
pub mod ReflexivityLaws
pub mod ScopeLaws
pub mod ScopedTerms
pub mod SmallRuns
