use Rattle.clause_walks.specs.Meanings.{pair_of, pairs_of}
use Rattle.clause_walks.specs.Sizes.{size_of, size_of_all}
use Rattle.clause_walks.proofs.parts.+first_clash.Given as goal

abbrev pub decreases-clash_in : goal.decreases-clash_in
decreases-clash_in l = size_of (pair_of l.pair.now)

abbrev pub decreases-first_clash : goal.decreases-first_clash
decreases-first_clash l = size_of_all (pairs_of l.pairs.now)
