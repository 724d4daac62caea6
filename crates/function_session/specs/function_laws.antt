pub mod report_laws
pub mod declaration_laws
