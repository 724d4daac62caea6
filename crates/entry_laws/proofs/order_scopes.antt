pub mod OrderLengths
pub mod OrderedScopes
pub mod RecursionOrders
