pub mod Laws
pub mod Steady
