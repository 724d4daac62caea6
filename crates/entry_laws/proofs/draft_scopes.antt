pub mod FunctionNames
pub mod FunctionSignatures
pub mod HelperNames
pub mod LeafScopes
pub mod RenumberedDrafts
