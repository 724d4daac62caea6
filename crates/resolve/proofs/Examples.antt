mod Declarations
mod MutualFamilies
mod Sample
mod Terms
