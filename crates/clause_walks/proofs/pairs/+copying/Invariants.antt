use Rattle.clause_walks.specs.Meanings.{pair_of, pairs_of}
use Rattle.clause_walks.specs.Sizes.{size_of, size_of_all}
use Rattle.clause_walks.proofs.pairs.+copying.Given as goal

abbrev pub decreases-copy_pair : goal.decreases-copy_pair
decreases-copy_pair l = size_of (pair_of l.pair.now)

abbrev pub decreases-copy_after : goal.decreases-copy_after
decreases-copy_after l = size_of_all (pairs_of l.pairs.now)
