use Rattle.std.proofs.Common.{◌+◌, ◌*◌}
use Rattle.core_terms.specs.Meanings.{tree_of}
use Rattle.theory.specs.Terms.{height}
use Rattle.case_trees.proofs.pattern_vectors.separation.+separation.Given as goal

abbrev pub decreases-pattern_apart : goal.decreases-pattern_apart
decreases-pattern_apart l = 2 * height (tree_of l.t.now) + 1

abbrev pub decreases-last_apart : goal.decreases-last_apart
decreases-last_apart l = 2 * height (tree_of l.t.now)
