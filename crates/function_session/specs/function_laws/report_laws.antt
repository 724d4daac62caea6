pub mod plan_drafts
pub mod drafts_in_turn
pub mod Laws
pub mod Reportable
pub mod Functions
