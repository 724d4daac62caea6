use Rattle.std.proofs.Common.{◌≡◌, ◌+◌, ◌*◌, map, drop}
use Rattle.core_terms.specs.PatternMeanings.{clause_of}
use Rattle.surface_syntax.specs.Trees as surf
use Rattle.surface_syntax.specs.TreeMeanings as written
use Rattle.resolve.specs.Functions as spec
use Rattle.resolve.specs.Scopes.{known_of}
use Rattle.resolve.proofs.ClauseSizes.{size_clause, size_right, size_clauses}
use Rattle.resolve.proofs.Vectors.{ahead_clauses}
use Rattle.resolve.proofs.functions.+clause.Given as goal

abbrev pub invariant-clauses-loop-given : goal.invariant-clauses-loop-given
invariant-clauses-loop-given l =
    spec.clauses l.known.sig.now (known_of l.known) l.own l.allowed (surf.clauses (map written.clause_of l.list))
    ≡ ahead_clauses (map clause_of l.resolved) (spec.clauses l.known.sig.now (known_of l.known) l.own l.allowed (surf.clauses (map written.clause_of (drop l.given-index l.list))))

abbrev pub decreases-clause : goal.decreases-clause
decreases-clause l = 3 * size_clause (written.clause_of l.given.now)

abbrev pub decreases-clause_over : goal.decreases-clause_over
decreases-clause_over l = 3 * size_right (written.right_of l.right.now) + 2

abbrev pub decreases-right_side : goal.decreases-right_side
decreases-right_side l = 3 * size_right (written.right_of l.right.now) + 1

abbrev pub decreases-clauses : goal.decreases-clauses
decreases-clauses l = 3 * size_clauses (surf.clauses (map written.clause_of l.list.now)) + 1
