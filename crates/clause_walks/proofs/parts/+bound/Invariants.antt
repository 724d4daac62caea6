use Rattle.clause_walks.specs.Meanings.{pair_of, pairs_of}
use Rattle.clause_walks.specs.Sizes.{size_of, size_of_all}
use Rattle.clause_walks.proofs.parts.+bound.Given as goal

abbrev pub decreases-add_bound : goal.decreases-add_bound
decreases-add_bound l = size_of (pair_of l.pair.now)

abbrev pub decreases-add_all_bound : goal.decreases-add_all_bound
decreases-add_all_bound l = size_of_all (pairs_of l.pairs.now)
