pub mod elaboration
-- The report of each clause of a function.
pub mod Conditions
pub mod DraftEntering
pub mod Equations
pub mod Generated
pub mod Laws
pub mod ProofTerms
pub mod ProofWalks
pub mod Reports
pub mod Shadows
pub mod Stops
