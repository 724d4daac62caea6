use Rattle.clause_walks.specs.Meanings.{pair_of, pairs_of}
use Rattle.clause_walks.specs.Sizes.{size_of, size_of_all}
use Rattle.clause_walks.proofs.parts.+dots.Given as goal

abbrev pub decreases-add_dots : goal.decreases-add_dots
decreases-add_dots l = size_of (pair_of l.pair.now)

abbrev pub decreases-add_all_dots : goal.decreases-add_all_dots
decreases-add_all_dots l = size_of_all (pairs_of l.pairs.now)
