use Rattle.tele_eq.proofs.dependences.+closed.Given as goal

abbrev pub decreases-closed : goal.decreases-closed
decreases-closed l = l.at
