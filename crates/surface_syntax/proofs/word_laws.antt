pub mod Counted
pub mod Declared
pub mod Lexed
pub mod Spelled
