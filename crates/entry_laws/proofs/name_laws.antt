pub mod CycleSides
mod FirstPlaces
pub mod LastSides
mod RunsGo
mod SplitOrders
mod ToldCycles
mod ToldNames
mod ToldRuns
mod ToldSplits
mod ToldTerms
