pub mod HelperDrafts
