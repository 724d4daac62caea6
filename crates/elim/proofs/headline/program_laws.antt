mod AnswersRead
pub mod CoreFiles
mod CoreLaws
mod EntriesWithoutK
mod FirstInvalid
mod InstancesLeft
mod LastLines
mod LinesWithoutK
pub mod OneSignature
mod Outputs
mod Reasons
mod RecordsShown
mod Splitting
pub mod Writable
