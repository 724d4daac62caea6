pub mod Adding
pub mod Answering
pub mod Enterable
pub mod Entered
mod Examples
pub mod PreludeReady
pub mod Resolved
pub mod SameNames
pub mod ShownFamilies
pub mod Written
pub mod WrittenDefinitions
pub mod WrittenFamilies
