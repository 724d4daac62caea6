use Rattle.tele_eq.proofs.typing.+positions_from.Given as goal

abbrev pub decreases-positions_from : goal.decreases-positions_from
decreases-positions_from l = l.count
