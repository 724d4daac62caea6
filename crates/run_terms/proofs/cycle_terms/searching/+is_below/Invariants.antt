use Rattle.std.proofs.Common.{◌+◌, ◌*◌}
use Rattle.core_terms.specs.Meanings.{tree_of}
use Rattle.theory.specs.Terms.{height}
use Rattle.run_terms.proofs.cycle_terms.searching.+is_below.Given as goal

abbrev pub decreases-is_below : goal.decreases-is_below
decreases-is_below l = 4 * height (tree_of l.t.now) + 1

abbrev pub decreases-is_below_along : goal.decreases-is_below_along
decreases-is_below_along l = 4 * height (tree_of l.t.now)

abbrev pub decreases-is_there : goal.decreases-is_there
decreases-is_there l = 4 * height (tree_of l.r.now) + 2
