mod Completions
pub mod Meanings
