use Rattle.clause_walks.specs.Meanings.{pair_of, pairs_of}
use Rattle.clause_walks.specs.Sizes.{size_of, size_of_all}
use Rattle.clause_walks.proofs.parts.+terms.Given as goal

abbrev pub decreases-term_in : goal.decreases-term_in
decreases-term_in l = size_of (pair_of l.pair.now)

abbrev pub decreases-terms_after : goal.decreases-terms_after
decreases-terms_after l = size_of_all (pairs_of l.pairs.now)
