use Rattle.std.proofs.Common.{length, ◌+◌, ◌*◌}
use Rattle.theory.specs.Terms.{height}
use Rattle.core_terms.specs.Meanings.{tree_of}
use Rattle.tele_eq.specs.CodeEnvironments.{maps_of_left, maps_of_pairs}
use Rattle.tele_eq.proofs.environment.+put.Given as goal

abbrev pub decreases-left_at : goal.decreases-left_at
decreases-left_at l = maps_of_left l.left * 1000000000000 + 1

abbrev pub decreases-at : goal.decreases-at
decreases-at l = (maps_of_left l.left + maps_of_pairs l.pairs) * 1000000000000 + 5000000000

abbrev pub decreases-inside : goal.decreases-inside
decreases-inside l = maps_of_left l.left * 1000000000000 + 2000000000 + length l.positions.now

abbrev pub decreases-image : goal.decreases-image
decreases-image l = 900000000000

abbrev pub decreases-put_variable : goal.decreases-put_variable
decreases-put_variable l = (maps_of_left l.left + maps_of_pairs l.pairs) * 1000000000000 + 10000000000

abbrev pub decreases-put_under : goal.decreases-put_under
decreases-put_under l = (maps_of_left l.left + maps_of_pairs l.pairs) * 1000000000000 + 100000000000 + 3 * height (tree_of l.t.now)
