pub mod shadow_vectors
pub mod CodeEquations
pub mod EquationMeanings
pub mod Laws
