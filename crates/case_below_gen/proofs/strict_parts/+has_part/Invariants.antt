use Rattle.std.proofs.Common.{◌+◌, ◌*◌}
use Rattle.core_terms.specs.Meanings.{tree_of}
use Rattle.theory.specs.Terms.{height}
use Rattle.case_below_gen.proofs.strict_parts.+has_part.Given as goal

abbrev pub decreases-has_part : goal.decreases-has_part
decreases-has_part l = 4 * height (tree_of l.t.now) + 1

abbrev pub decreases-has_part_along : goal.decreases-has_part_along
decreases-has_part_along l = 4 * height (tree_of l.t.now)

abbrev pub decreases-is_at : goal.decreases-is_at
decreases-is_at l = 4 * height (tree_of l.r.now) + 2
