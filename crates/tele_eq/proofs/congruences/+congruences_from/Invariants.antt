use Rattle.tele_eq.proofs.congruences.+congruences_from.Given as goal

abbrev pub decreases-congruences_from : goal.decreases-congruences_from
decreases-congruences_from l = l.count
