use Rattle.clause_walks.specs.Meanings.{pair_of, pairs_of}
use Rattle.clause_walks.specs.Sizes.{size_of, size_of_all}
use Rattle.clause_walks.proofs.parts.+left.Given as goal

abbrev pub decreases-left_in : goal.decreases-left_in
decreases-left_in l = size_of (pair_of l.pair.now)

abbrev pub decreases-all_left : goal.decreases-all_left
decreases-all_left l = size_of_all (pairs_of l.pairs.now)
