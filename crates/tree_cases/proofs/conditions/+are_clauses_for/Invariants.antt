use Rattle.std.proofs.Common.{length}
use Rattle.tree_cases.proofs.conditions.+are_clauses_for.Given as goal

abbrev pub decreases-are_clauses_for : goal.decreases-are_clauses_for
decreases-are_clauses_for l = length l.clauses.now
