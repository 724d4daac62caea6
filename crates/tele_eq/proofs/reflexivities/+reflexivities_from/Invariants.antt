use Rattle.tele_eq.proofs.reflexivities.+reflexivities_from.Given as goal

abbrev pub decreases-reflexivities_from : goal.decreases-reflexivities_from
decreases-reflexivities_from l = l.count
