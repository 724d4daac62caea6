pub mod Following
pub mod Growing
pub mod NodeConditions
pub mod NodeMeanings
