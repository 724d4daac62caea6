use Rattle.std.proofs.Common.{◌+◌, ◌*◌}
use Rattle.core_terms.specs.Meanings.{tree_of}
use Rattle.theory.specs.Terms.{height}
use Rattle.case_trees.proofs.pattern_vectors.matching.+matching.Given as goal

abbrev pub decreases-pattern_matches : goal.decreases-pattern_matches
decreases-pattern_matches l = 2 * height (tree_of l.t.now) + 1

abbrev pub decreases-last_match : goal.decreases-last_match
decreases-last_match l = 2 * height (tree_of l.t.now)
