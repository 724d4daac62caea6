use Rattle.case_trees.proofs.MoreUnitsWalks.{outcome_is_unique}
use Rattle.case_trees.proofs.laws.outcome_is_unique.Goals as goal

pub returns : goal.returns
returns c = outcome_is_unique
