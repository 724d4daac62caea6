use Rattle.std.proofs.Common.{ℕ, ◌+◌, ◌*◌}
use Rattle.theory.specs.Terms.{height}
use Rattle.core_terms.specs.Meanings.{tree_of}
use Rattle.problems.specs.declared.moving.Places.{Places}
use Rattle.problems.specs.declared.moving.Places.TheVariants as place
use Rattle.problems.proofs.moving.+put.Given as goal

-- the term of a solution is itself put into the new order, which has a lower rank
abbrev pub rank_of : Places → ℕ
rank_of (place.Reordered order) = 0
rank_of (place.Solved s) = 1
rank_of (place.Behind b) = 1

abbrev pub decreases-variable_at : goal.decreases-variable_at
decreases-variable_at l = 900000000000

abbrev pub decreases-behind_at : goal.decreases-behind_at
decreases-behind_at l = 900000000001

abbrev pub decreases-at : goal.decreases-at
decreases-at l = rank_of l.places * 1000000000000 + 5000000000

abbrev pub decreases-put_variable : goal.decreases-put_variable
decreases-put_variable l = rank_of l.places * 1000000000000 + 10000000000

abbrev pub decreases-put_under : goal.decreases-put_under
decreases-put_under l = rank_of l.places * 1000000000000 + 100000000000 + 3 * height (tree_of l.t.now)
