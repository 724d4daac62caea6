pub mod EnteredOpen
pub mod OpenPrelude
pub mod OpenSignatures
pub mod OpenSteps
