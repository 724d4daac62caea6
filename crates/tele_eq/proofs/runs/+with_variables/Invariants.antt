use Rattle.tele_eq.proofs.runs.+with_variables.Given as goal

abbrev pub decreases-with_variables : goal.decreases-with_variables
decreases-with_variables l = l.count
