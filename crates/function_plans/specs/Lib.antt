pub mod CodePlans
pub mod Laws
