pub mod Laws
pub mod SplitLaws
