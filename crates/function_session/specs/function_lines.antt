pub mod Conditions
pub mod Phases
pub mod LineMeanings
pub mod Opened
