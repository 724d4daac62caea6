use Rattle.run_terms.proofs.level_lists.+with_levels.Given as goal

abbrev pub decreases-with_levels : goal.decreases-with_levels
decreases-with_levels l = l.count
