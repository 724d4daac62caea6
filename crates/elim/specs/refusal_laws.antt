pub mod accepted_laws
pub mod unit_laws
pub mod Parts
pub mod Causes
pub mod Laws
pub mod MutualCauses
