use Rattle.tele_eq.proofs.equation_lists.+equations_from.Given as goal

abbrev pub decreases-equations_from : goal.decreases-equations_from
decreases-equations_from l = l.count
