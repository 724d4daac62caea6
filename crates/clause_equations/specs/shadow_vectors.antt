pub mod CodeVectors
pub mod LeafMeanings
pub mod Sizes
