pub mod Conditions
pub mod Declaring
pub mod Entering
pub mod EquationLines
pub mod Laws
pub mod Refusals
