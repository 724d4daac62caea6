pub mod Functions
pub mod Laws
pub mod Refusals
pub mod Walking
