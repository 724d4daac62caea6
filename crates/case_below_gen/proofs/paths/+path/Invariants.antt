use Rattle.std.proofs.Common.{◌+◌, ◌*◌}
use Rattle.core_terms.specs.Meanings.{tree_of}
use Rattle.theory.specs.Terms.{height}
use Rattle.case_below_gen.proofs.paths.+path.Given as goal

abbrev pub decreases-path_of : goal.decreases-path_of
decreases-path_of l = 4 * height (tree_of l.t.now) + 1

abbrev pub decreases-path_along : goal.decreases-path_along
decreases-path_along l = 4 * height (tree_of l.t.now)

abbrev pub decreases-path_at : goal.decreases-path_at
decreases-path_at l = 4 * height (tree_of l.r.now) + 2
