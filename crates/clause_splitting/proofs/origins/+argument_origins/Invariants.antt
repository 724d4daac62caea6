use Rattle.clause_splitting.proofs.origins.+argument_origins.Given as goal

abbrev pub decreases-argument_origins : goal.decreases-argument_origins
decreases-argument_origins l = l.count
