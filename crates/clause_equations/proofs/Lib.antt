pub mod MadeEquations
pub mod Pairs
