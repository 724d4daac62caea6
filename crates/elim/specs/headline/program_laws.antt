pub mod Answers
pub mod CoreFiles
pub mod LastLines
pub mod Laws
pub mod WithoutK
