pub mod BlocksApart
pub mod BlocksExpand
pub mod BlocksOfLines
pub mod EarlierTerms
mod Examples
pub mod Expanding
pub mod Joined
pub mod LowTerms
pub mod PrintedEnds
pub mod PrintedParts
pub mod SharedIds
pub mod ShownFamilies
pub mod TermOrder
pub mod Unshared
pub mod WalkLaws
pub mod WrittenIds
