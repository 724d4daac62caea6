-- Tests of drafts, and of the signatures that they enter.
pub mod Checks
pub mod Laws
