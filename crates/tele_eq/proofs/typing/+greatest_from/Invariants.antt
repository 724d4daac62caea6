use Rattle.tele_eq.proofs.typing.+greatest_from.Given as goal

abbrev pub decreases-greatest_from : goal.decreases-greatest_from
decreases-greatest_from l = l.count
