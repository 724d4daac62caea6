mod Examples
pub mod Admissions
pub mod AdmittingPositions
pub mod ChosenPositions
pub mod FailingCalls
pub mod FirstFailing
pub mod FittingCalls
pub mod FixedPositions
pub mod LowerParts
pub mod Members
pub mod Occurrences
pub mod Parts
pub mod RecursionOrders
pub mod Samples
pub mod SmallTerms
