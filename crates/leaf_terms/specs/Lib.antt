pub mod CallsApart
pub mod CodeRightSides
pub mod Laws
pub mod PlaceMeanings
pub mod PlanMeanings
pub mod RecursionMade
pub mod RecursionMeanings
pub mod CodeNumbering
