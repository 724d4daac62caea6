use Rattle.unifier.proofs.groups.+group_trials.Given as goal

abbrev pub decreases-group_trials : goal.decreases-group_trials
decreases-group_trials l = l.k
