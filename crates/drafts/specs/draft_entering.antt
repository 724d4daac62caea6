-- How drafts enter a signature.
pub mod ByNumbers
pub mod Conditions
pub mod Depths
pub mod FoundNames
pub mod FreeNames
pub mod Stops
pub mod Tables
