pub mod Bare
pub mod CodeRunTerms
pub mod CodeSplits
pub mod Laws
pub mod NodeMeanings
pub mod SplitLaws
