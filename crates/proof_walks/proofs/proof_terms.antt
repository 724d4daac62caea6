pub mod Joining
pub mod ProofsMade
