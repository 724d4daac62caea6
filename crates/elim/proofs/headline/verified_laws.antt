mod Compiled
pub mod CoreFiles
pub mod LetIn
pub mod Reported
pub mod Texts
pub mod Written
