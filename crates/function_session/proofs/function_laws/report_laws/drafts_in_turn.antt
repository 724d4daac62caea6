pub mod CycleSides
pub mod RunNames
pub mod TreeNames
pub mod EnteringInTurn
pub mod PartLevels
pub mod PlanNames
pub mod FunctionNames
pub mod EnteringFunctions
