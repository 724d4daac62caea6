use Rattle.std.proofs.Common.{◌+◌, ◌*◌}
use Rattle.core_terms.specs.PatternMeanings.{clause_of, clauses_of, right_of}
use Rattle.function_checks.proofs.function_clauses.ClauseSizes.{size_clause, size_clauses, size_right}
use Rattle.function_checks.proofs.function_clauses.walks.+walks.Given as goal

abbrev pub decreases-walk_clause : goal.decreases-walk_clause
decreases-walk_clause l = 5 * size_clause (clause_of l.c.now)

abbrev pub decreases-walk_right : goal.decreases-walk_right
decreases-walk_right l = 5 * size_right (right_of l.right.now) + 4

abbrev pub decreases-with_walked : goal.decreases-with_walked
decreases-with_walked l = 5 * size_clauses (clauses_of l.inner.now) + 4

abbrev pub decreases-inside_walked : goal.decreases-inside_walked
decreases-inside_walked l = 5 * size_clauses (clauses_of l.inner.now) + 3

abbrev pub decreases-walk_clauses : goal.decreases-walk_clauses
decreases-walk_clauses l = 5 * size_clauses (clauses_of l.clauses.now) + 1

abbrev pub decreases-others_walked : goal.decreases-others_walked
decreases-others_walked l = 5 * size_clauses (clauses_of l.rest.now) + 2
