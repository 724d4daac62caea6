use Rattle.run_terms.proofs.level_lists.+with_levels_without.Given as goal

abbrev pub decreases-with_levels_without : goal.decreases-with_levels_without
decreases-with_levels_without l = l.count
