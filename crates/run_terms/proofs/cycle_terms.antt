mod Along
mod CycleMembers
mod RefutedGoals
mod SaidTerms
