use Rattle.tree_translation.proofs.structural_rec.positions.+mentions_only.Given as goal

abbrev pub decreases-mentions_only : goal.decreases-mentions_only
decreases-mentions_only l = l.k
