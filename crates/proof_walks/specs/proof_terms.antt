pub mod CodeProofs
pub mod Laws
pub mod ProofMeanings
pub mod Sizes
