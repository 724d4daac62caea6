pub mod Accepted
mod ElaboratedInLine
pub mod DecisionNames
pub mod DeclaredNames
pub mod Entries
mod FileLines
pub mod FirstNames
pub mod Following
mod FunctionInLine
mod FunctionTexts
pub mod Lines
mod MutualInLine
pub mod MutualPhases
mod MutualWords
pub mod NewSessions
pub mod NoEquations
pub mod OneOutput
pub mod OutputInLine
pub mod PackedOutcomes
pub mod Reading
pub mod RefusedBlocks
pub mod Shown
pub mod TextLines
mod Verified
mod Whole
mod WorkCounts
pub mod WorkLines
mod Writing
