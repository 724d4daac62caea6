pub mod Calls
pub mod Errors
pub mod Ports
pub mod Reading
