-- The lines of clauses, as the code finds them.
pub mod CodeReports
pub mod Laws
pub mod LineMeanings
