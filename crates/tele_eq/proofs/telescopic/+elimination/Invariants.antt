use Rattle.std.proofs.Common.{length, ◌+◌, ◌*◌}
use Rattle.tele_eq.specs.CodeEnvironments.{rank_of_goal, rank_of_pairs}
use Rattle.tele_eq.proofs.telescopic.+elimination.Given as goal

abbrev pub decreases-equation : goal.decreases-equation
decreases-equation l = rank_of_pairs l.pairs * 1000000000 + l.n * 100000 + 5

abbrev pub decreases-left_below : goal.decreases-left_below
decreases-left_below l = rank_of_pairs l.pairs * 1000000000 + l.n * 100000 + 4

abbrev pub decreases-transported : goal.decreases-transported
decreases-transported l = rank_of_pairs l.pairs * 1000000000 + l.n * 100000 + 80000

abbrev pub decreases-telescopic_j : goal.decreases-telescopic_j
decreases-telescopic_j l =
    (rank_of_goal l.goal + rank_of_pairs l.pairs) * 1000000000 + l.n * 100000 + 50000 + length l.positions.now

abbrev pub decreases-motive : goal.decreases-motive
decreases-motive l = rank_of_goal l.goal * 1000000000 + l.n * 100000 + 10000

abbrev pub decreases-goal_term : goal.decreases-goal_term
decreases-goal_term l = rank_of_goal l.goal * 1000000000 + 1

abbrev pub decreases-equations_over : goal.decreases-equations_over
decreases-equations_over l = l.n * 100000 + 6 + length l.positions.now

abbrev pub decreases-applied_to_pairs : goal.decreases-applied_to_pairs
decreases-applied_to_pairs l = rank_of_pairs l.pairs * 1000000000 + 3 + length l.positions.now

abbrev pub decreases-congruence_below : goal.decreases-congruence_below
decreases-congruence_below l = (2 * l.n + 1) * 1000000000
