use Rattle.store_reduce.proofs.spines.+applied_to_nearest_in.Given as goal

abbrev pub decreases-applied_to_nearest_in : goal.decreases-applied_to_nearest_in
decreases-applied_to_nearest_in g l = l.count
