use Rattle.leaf_terms.proofs.orders.+after_positions.Given as goal

abbrev pub decreases-after_positions : goal.decreases-after_positions
decreases-after_positions l = l.count
