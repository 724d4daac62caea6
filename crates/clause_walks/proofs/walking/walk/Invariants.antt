use Rattle.std.proofs.Common.{◌≡◌, ◌+◌, ◌≤◌}
use Rattle.case_trees.specs.OwnWalks.{by_patterns}
use Rattle.clause_walks.specs.Meanings.{pairs_of}
use Rattle.clause_walks.specs.PairConditions.{IsWalkState}
use Rattle.clause_walks.specs.PointMeanings.{point_of}
use Rattle.clause_walks.proofs.walking.walk.Given as goal

abbrev pub invariant-turns : goal.invariant-turns
invariant-turns l = record {
  meant : by_patterns l.sig l.clause l.patterns (point_of l.point) (pairs_of l.pairs) l.kernel.left
      ≡ by_patterns l.sig l.clause l.fn.most (point_of l.fn.start) (pairs_of l.fn.first) l.fn.kernel.left;
  state : IsWalkState l.sig (point_of l.point) (pairs_of l.pairs);
  sum : l.kernel.left + l.kernel.spent ≡ l.fn.kernel.left + l.fn.kernel.spent;
  spends : l.kernel.left ≤ l.fn.kernel.left;
  kernel : l.kernel.signature ≡ l.sig;
}

abbrev pub decreases-turns : goal.decreases-turns
decreases-turns l = l.patterns
