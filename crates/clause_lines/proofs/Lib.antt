pub mod EnteredLines
pub mod Following
pub mod NameMarks
pub mod OtherDenials
pub mod PartsAnswered
pub mod ReducedPlaces
pub mod ReportsAnswered
pub mod ShadowsAnswered
