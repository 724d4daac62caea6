use Rattle.run_terms.proofs.placing.+applied_to_levels_from.Given as goal

abbrev pub decreases-applied_to_levels_from : goal.decreases-applied_to_levels_from
decreases-applied_to_levels_from l = l.count
