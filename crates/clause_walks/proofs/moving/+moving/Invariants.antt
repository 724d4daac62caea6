use Rattle.clause_walks.specs.Meanings.{pair_of, pairs_of}
use Rattle.clause_walks.specs.Sizes.{size_of, size_of_all}
use Rattle.clause_walks.proofs.moving.+moving.Given as goal

abbrev pub decreases-moved_pair : goal.decreases-moved_pair
decreases-moved_pair l = size_of (pair_of l.pair.now)

abbrev pub decreases-moved_onto : goal.decreases-moved_onto
decreases-moved_onto l = size_of_all (pairs_of l.pairs.now)
