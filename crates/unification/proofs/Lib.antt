pub mod BothConstructors
pub mod BuiltScopes
pub mod Cases
pub mod Comparisons
pub mod ConstructorTrials
pub mod Constructors
pub mod Counts
pub mod CycleTrials
pub mod DeletionTrials
pub mod Dependants
pub mod FollowingRuns
pub mod GroupTrials
pub mod HeadForms
pub mod Levels
pub mod Memberships
pub mod MovedEquations
pub mod MovedStates
pub mod Occurring
pub mod OutcomeScopes
pub mod Puts
pub mod Reducts
mod Rows
pub mod RunLaws
pub mod RunProperties
mod Samples
pub mod ScopedEquations
pub mod ScopedRecords
pub mod SearchLaws
pub mod SearchedVariables
pub mod Sizes
pub mod SolutionLaws
pub mod SolutionTrials
pub mod SolvedContexts
pub mod SolvedProblems
pub mod SolvedVariables
pub mod SpentUnits
mod SplitRows
mod StateRows
pub mod Trials
pub mod TurnLaws
pub mod TurnProperties
pub mod TurnScopes
pub mod UnderInstances
pub mod Variables
