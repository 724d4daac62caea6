pub mod Clauses
pub mod Functions
pub mod Laws
pub mod PlannedFunctions
