pub mod Keeping
pub mod LineLaws
pub mod Lines
pub mod ProvedTypes
pub mod ReportKeeping
pub mod ReportSpending
pub mod Spending
pub mod WalkSpending
