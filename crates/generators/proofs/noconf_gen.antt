pub mod CaseComputing
pub mod ConfusionComputing
pub mod Entries
mod Examples
pub mod FreeParts
pub mod FreeTerms
mod IndexedExamples
pub mod SameParts
mod Samples
pub mod ScopedConfusion
pub mod ScopedMembers
pub mod SmallTerms
pub mod TooHigh
