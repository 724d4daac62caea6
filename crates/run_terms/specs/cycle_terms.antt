pub mod CodeCycles
pub mod SearchMeanings
