pub mod AnsweredParts
