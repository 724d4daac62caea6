pub mod OwnOrders
pub mod PlainFunctions
pub mod RecursiveFunctions
