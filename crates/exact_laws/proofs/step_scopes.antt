pub mod AllDrafts
pub mod BelowTypes
pub mod PartDrafts
pub mod PlanOrders
pub mod RecursionShapes
