pub mod ChosenPairs
mod Examples
pub mod FailingCalls
pub mod FallingCalls
pub mod FirstFailing
pub mod FixedBehind
pub mod FollowingPositions
pub mod LaterPairs
pub mod ListedPairs
pub mod MemberTypes
pub mod PairOrders
pub mod SmallMembers
