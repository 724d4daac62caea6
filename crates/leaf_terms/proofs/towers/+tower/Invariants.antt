use Rattle.leaf_terms.proofs.towers.+tower.Given as goal

abbrev pub decreases-tower : goal.decreases-tower
decreases-tower l = l.count
