pub mod Keeping
pub mod Spending
pub mod WalkSpending
