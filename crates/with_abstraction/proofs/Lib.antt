pub mod BehindLevels
pub mod Following
pub mod FormScopes
pub mod GivenBack
pub mod LeftNone
pub mod NeededLevels
pub mod NormalRuns
pub mod OpenedTypes
pub mod PutBack
mod Rows
mod Samples
pub mod ScopedAbstractions
pub mod Variables
pub mod Widths
