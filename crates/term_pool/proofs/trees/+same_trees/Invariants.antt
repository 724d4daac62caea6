use Rattle.term_pool.proofs.trees.+same_trees.Given as goal

abbrev pub decreases-same_trees : goal.decreases-same_trees
decreases-same_trees l = l.a.at
