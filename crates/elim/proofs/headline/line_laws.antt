pub mod Functions
pub mod PlanWalks
pub mod Reports
pub mod WrittenPatterns
