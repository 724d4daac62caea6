pub mod Runs
pub mod Reducing
pub mod Checking
pub mod Entering
