pub mod draft_entering
pub mod entering_laws
pub mod draft_checks
