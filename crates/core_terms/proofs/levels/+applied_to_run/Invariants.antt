use Rattle.core_terms.proofs.levels.+applied_to_run.Given as goal

abbrev pub decreases-applied_to_run : goal.decreases-applied_to_run
decreases-applied_to_run l = l.count
