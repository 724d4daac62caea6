pub mod items
