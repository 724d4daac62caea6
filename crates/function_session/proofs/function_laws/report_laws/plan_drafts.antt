pub mod FunctionDrafts
pub mod TestedDrafts
