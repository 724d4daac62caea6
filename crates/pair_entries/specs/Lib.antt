pub mod CodePairEntries
pub mod PairLaws
pub mod PairMeanings
