use Rattle.clause_walks.specs.Meanings.{pair_of, pairs_of}
use Rattle.clause_walks.specs.Sizes.{size_of, size_of_all}
use Rattle.clause_walks.proofs.parts.+opening.Given as goal

abbrev pub decreases-add_open : goal.decreases-add_open
decreases-add_open l = size_of (pair_of l.pair.now)

abbrev pub decreases-add_all_open : goal.decreases-add_all_open
decreases-add_all_open l = size_of_all (pairs_of l.pairs.now)
