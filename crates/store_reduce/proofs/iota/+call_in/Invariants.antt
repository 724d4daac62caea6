use Rattle.store_reduce.proofs.iota.+call_in.Given as goal

abbrev pub decreases-call_in : goal.decreases-call_in
decreases-call_in g l = l.count
