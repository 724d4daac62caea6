pub mod ReducedTerms
pub mod ScopedVectors
