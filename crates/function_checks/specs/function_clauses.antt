pub mod CodeClauses
pub mod Conditions
pub mod Laws
pub mod ScrutineeMeanings
