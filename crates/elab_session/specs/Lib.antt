pub mod Adding
pub mod Declaring
pub mod Entering
pub mod Laws
pub mod Meanings
pub mod Refusals
pub mod Sessions
