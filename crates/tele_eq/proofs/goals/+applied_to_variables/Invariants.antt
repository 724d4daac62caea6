use Rattle.tele_eq.proofs.goals.+applied_to_variables.Given as goal

abbrev pub decreases-applied_to_variables : goal.decreases-applied_to_variables
decreases-applied_to_variables l = l.count
