pub mod PairsMade
