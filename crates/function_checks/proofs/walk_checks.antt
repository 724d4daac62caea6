pub mod Chains
pub mod HelperCalls
pub mod Scopes
