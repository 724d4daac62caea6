use Rattle.clause_splitting.proofs.origins.+old_origins.Given as goal

abbrev pub decreases-old_origins : goal.decreases-old_origins
decreases-old_origins l = l.count
