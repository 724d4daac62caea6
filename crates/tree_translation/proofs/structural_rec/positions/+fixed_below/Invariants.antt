use Rattle.tree_translation.proofs.structural_rec.positions.+fixed_below.Given as goal

abbrev pub decreases-fixed_below : goal.decreases-fixed_below
decreases-fixed_below l = l.at
