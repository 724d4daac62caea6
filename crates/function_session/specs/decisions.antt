pub mod Declaring
pub mod Entering
pub mod Known
pub mod Laws
pub mod Naming
pub mod Refusals
