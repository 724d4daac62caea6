pub mod Complete
pub mod Laws
pub mod Meant
