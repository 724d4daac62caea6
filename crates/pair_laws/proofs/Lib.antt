pub mod PairDrafts
pub mod PairNames
pub mod PairNodes
pub mod PairScopes
pub mod TwoHidden
