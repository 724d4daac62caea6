pub mod replay_laws
pub mod name_laws
pub mod node_roots
pub mod entry_scopes
pub mod draft_scopes
pub mod order_scopes
