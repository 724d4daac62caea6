use Rattle.with_abstraction.proofs.orders.+others_from.Given as goal

abbrev pub decreases-others_from : goal.decreases-others_from
decreases-others_from l = l.count
