pub mod AnsweredTreeNames
pub mod AnsweredTrees
pub mod FunctionTrees
pub mod MadeEntries
pub mod SameCode
pub mod SameFamilies
