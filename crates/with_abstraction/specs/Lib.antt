pub mod Abstractions
pub mod Conditions
pub mod Laws
pub mod Meanings
pub mod Needed
pub mod NormalForms
pub mod Occurrences
pub mod Orders
