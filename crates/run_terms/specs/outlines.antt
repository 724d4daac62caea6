pub mod Composing
pub mod Later
pub mod OutlineMeanings
