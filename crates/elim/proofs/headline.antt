mod Accepted
mod Adding
mod AddingReports
mod Full
mod NewEntries
mod NewMutualEntries
mod Runs
