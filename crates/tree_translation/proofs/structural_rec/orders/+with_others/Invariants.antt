use Rattle.tree_translation.proofs.structural_rec.orders.+with_others.Given as goal

abbrev pub decreases-with_others : goal.decreases-with_others
decreases-with_others l = l.count
