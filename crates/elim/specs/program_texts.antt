pub mod ClauseTexts
pub mod CommandLine
pub mod Lines
pub mod Refusals
pub mod Statuses
pub mod Texts
pub mod Words
