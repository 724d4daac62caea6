use Rattle.std.proofs.Common.{length}
use Rattle.tree_cases.proofs.conditions.+are_scoped.Given as goal

abbrev pub decreases-are_scoped : goal.decreases-are_scoped
decreases-are_scoped l = length l.terms.now
