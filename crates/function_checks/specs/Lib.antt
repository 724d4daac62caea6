pub mod function_refusals
pub mod function_walks
pub mod walk_checks
pub mod function_clauses
