use Rattle.std.proofs.Common.{◌+◌, ◌*◌, max}
use Rattle.core_terms.specs.Meanings.{tree_of}
use Rattle.theory.specs.Terms.{height}
use Rattle.drafts.proofs.draft_entering.entering.+enter_at.Given as goal

abbrev pub decreases-enter_at : goal.decreases-enter_at
decreases-enter_at l = 10000 * l.depth

abbrev pub decreases-enter_both : goal.decreases-enter_both
decreases-enter_both l = 10000 * l.depth + (3 * max (height (tree_of l.first.now)) (height (tree_of l.second.now)) + 5)

abbrev pub decreases-enter_three : goal.decreases-enter_three
decreases-enter_three l =
    10000 * l.depth + (3 * max (height (tree_of l.first.now)) (max (height (tree_of l.second.now)) (height (tree_of l.third.now))) + 6)

abbrev pub decreases-enter_term : goal.decreases-enter_term
decreases-enter_term l = 10000 * l.depth + (3 * height (tree_of l.t.now) + 4)

abbrev pub decreases-enter_constant : goal.decreases-enter_constant
decreases-enter_constant l = 10000 * l.depth + 3

abbrev pub decreases-enter_name : goal.decreases-enter_name
decreases-enter_name l = 10000 * l.depth + 2

abbrev pub decreases-enter_generated : goal.decreases-enter_generated
decreases-enter_generated l = 10000 * l.depth + 1
