use Rattle.decide_eq.proofs.statements.+decisions_over.Given as goal

abbrev pub decreases-decisions_over : goal.decreases-decisions_over
decreases-decisions_over l = l.count
