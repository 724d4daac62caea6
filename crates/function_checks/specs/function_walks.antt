pub mod Conditions
pub mod WalkingMeanings
