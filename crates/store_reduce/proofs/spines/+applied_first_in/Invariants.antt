use Rattle.store_reduce.proofs.spines.+applied_first_in.Given as goal

abbrev pub decreases-applied_first_in : goal.decreases-applied_first_in
decreases-applied_first_in g l = l.count
