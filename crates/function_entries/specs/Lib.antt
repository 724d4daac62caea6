pub mod CodeEntries
pub mod CodeTrees
pub mod Laws
pub mod Sizes
pub mod SplitMeanings
