pub mod Columns
pub mod CommonColumns
mod Examples
pub mod LastArguments
pub mod Meets
pub mod Nothing
pub mod Opens
pub mod Separate
pub mod Staying
