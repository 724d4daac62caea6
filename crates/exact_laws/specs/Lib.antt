pub mod run_laws
pub mod translation_laws
pub mod part_laws
pub mod leaf_laws
pub mod deep_laws
pub mod own_scopes
pub mod step_scopes
pub mod helper_scopes
