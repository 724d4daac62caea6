pub mod DirectArguments
pub mod DirectComputing
pub mod DirectLevels
pub mod Entries
mod Examples
pub mod OtherLevels
mod Samples
pub mod ScopedAcyclic
pub mod ScopedPushing
pub mod ScopedStatements
pub mod SmallItems
pub mod TooHigh
