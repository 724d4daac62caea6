pub mod Declarations
pub mod ExtendedFunctions
pub mod ExtendedReports
pub mod Texts
pub mod UnmarkedDeclarations
pub mod UnmarkedEntries
pub mod UnmarkedFamilies
pub mod UnmarkedMutual
