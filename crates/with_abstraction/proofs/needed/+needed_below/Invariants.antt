use Rattle.with_abstraction.proofs.needed.+needed_below.Given as goal

abbrev pub decreases-needed_below : goal.decreases-needed_below
decreases-needed_below l = l.below
