use Rattle.std.proofs.Common.{ℕ, ◌+◌, ◌*◌, Option, Some, None}
use Rattle.theory.specs.Terms.{height}
use Rattle.core_terms.specs.Meanings.{tree_of}
use Rattle.problems.specs.declared.moving.Solution.{Solution}
use Rattle.run_terms.specs.declared.places.Places.{Places}
use Rattle.run_terms.specs.declared.places.Places.TheVariants as place
use Rattle.run_terms.proofs.places.+put.Given as goal

-- the term of a solution is itself put into the new order, which has a lower rank
abbrev pub rank_of_solution : Option Solution → ℕ
rank_of_solution None = 0
rank_of_solution (Some s) = 3 * height (tree_of s.by.now) + 10

abbrev pub rank_of : Places → ℕ
rank_of (place.Levels levels) = 0
rank_of (place.Reordered order) = 0
rank_of (place.Solved s) = 3 * height (tree_of s.by.now) + 10
rank_of (place.After a) = rank_of_solution a.solution

abbrev pub decreases-solved_at : goal.decreases-solved_at
decreases-solved_at l = rank_of_solution l.solution

abbrev pub decreases-after_at : goal.decreases-after_at
decreases-after_at l = rank_of_solution l.after.solution + 1

abbrev pub decreases-at : goal.decreases-at
decreases-at l = rank_of l.places + 2

abbrev pub decreases-put_variable : goal.decreases-put_variable
decreases-put_variable l = rank_of l.places + 3

abbrev pub decreases-put_under : goal.decreases-put_under
decreases-put_under l = rank_of l.places + 3 * height (tree_of l.t.now) + 1
