pub mod AlongSpines
pub mod CaseTypes
pub mod Computing
mod CourseExamples
pub mod Deeper
pub mod DeeperMethods
mod Examples
pub mod FewCases
pub mod FewMethods
pub mod Filling
pub mod Functions
pub mod Hypotheses
mod IndexedExamples
mod LeftExamples
pub mod PartTests
pub mod PathBounds
mod PathExamples
pub mod PathLaws
pub mod Placements
pub mod Renumbered
mod Samples
pub mod ScopedCases
pub mod ScopedCourses
pub mod ScopedEntries
pub mod ScopedLeft
pub mod ScopedPaths
pub mod SettledDrafts
pub mod ShapeLevels
pub mod StepForms
pub mod TermLists
pub mod Unfolding
pub mod WholePaths
