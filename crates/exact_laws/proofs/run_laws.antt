pub mod AnsweredNames
pub mod AnsweredSplits
pub mod AnsweredTerms
pub mod ExactSplits
pub mod MadeRuns
pub mod MadeSplits
pub mod RunEnds
