pub mod CheckMeanings
pub mod CodeDots
pub mod CodeOpening
