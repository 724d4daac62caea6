use Rattle.store_reduce.proofs.spines.+without_last_in.Given as goal

abbrev pub decreases-without_last_in : goal.decreases-without_last_in
decreases-without_last_in g l = l.count
