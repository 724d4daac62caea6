use Rattle.std.proofs.Common.{◌+◌, ◌*◌}
use Rattle.clause_walks.specs.Meanings.{pair_of, pairs_of}
use Rattle.clause_walks.specs.Sizes.{size_of, size_of_all}
use Rattle.clause_walks.proofs.working.+again.Given as goal

abbrev pub decreases-work_pair : goal.decreases-work_pair
decreases-work_pair l = 4 * size_of (pair_of l.pair.now)

abbrev pub decreases-work_inside : goal.decreases-work_inside
decreases-work_inside l = 4 * size_of_all (pairs_of l.pairs.now) + 2

abbrev pub decreases-work_onto : goal.decreases-work_onto
decreases-work_onto l = 4 * size_of_all (pairs_of l.pairs.now)

abbrev pub decreases-after_pair : goal.decreases-after_pair
decreases-after_pair l = 4 * size_of_all (pairs_of l.pairs.now) + 1
