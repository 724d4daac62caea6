use Rattle.store_reduce.proofs.iota.+hypothesis_in.Given as goal

abbrev pub decreases-hypothesis_in : goal.decreases-hypothesis_in
decreases-hypothesis_in g l = l.inner
