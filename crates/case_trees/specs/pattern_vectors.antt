pub mod Columns
pub mod Laws
pub mod Matching
pub mod Meeting
pub mod Whole
