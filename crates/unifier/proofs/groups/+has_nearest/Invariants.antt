use Rattle.unifier.proofs.groups.+has_nearest.Given as goal

abbrev pub decreases-has_nearest : goal.decreases-has_nearest
decreases-has_nearest l = l.k
