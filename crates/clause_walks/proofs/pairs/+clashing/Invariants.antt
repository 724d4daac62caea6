use Rattle.clause_walks.specs.Meanings.{pair_of, pairs_of}
use Rattle.clause_walks.specs.Sizes.{size_of, size_of_all}
use Rattle.clause_walks.proofs.pairs.+clashing.Given as goal

abbrev pub decreases-clashes : goal.decreases-clashes
decreases-clashes l = size_of (pair_of l.pair.now)

abbrev pub decreases-some_clashes : goal.decreases-some_clashes
decreases-some_clashes l = size_of_all (pairs_of l.pairs.now)
