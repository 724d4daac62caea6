use Rattle.run_terms.proofs.solution_terms.+with_motive_levels.Given as goal

abbrev pub decreases-with_motive_levels : goal.decreases-with_motive_levels
decreases-with_motive_levels l = l.count
