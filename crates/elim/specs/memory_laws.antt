pub mod Foreseen
pub mod Laws
