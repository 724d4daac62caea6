use Rattle.store_reduce.proofs.several.+below_binders.Given as goal

abbrev pub decreases-below_binders : goal.decreases-below_binders
decreases-below_binders g l = l.most
