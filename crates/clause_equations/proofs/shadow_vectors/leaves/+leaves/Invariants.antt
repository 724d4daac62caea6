use Rattle.core_terms.specs.TreeMeanings.{branch_of, branches_of, case_tree_of}
use Rattle.clause_equations.specs.shadow_vectors.Sizes.{size_of, size_of_all, size_of_branch}
use Rattle.clause_equations.proofs.shadow_vectors.leaves.+leaves.Given as goal

abbrev pub decreases-add_leaves : goal.decreases-add_leaves
decreases-add_leaves l = size_of (case_tree_of l.tree.now)

abbrev pub decreases-add_below : goal.decreases-add_below
decreases-add_below l = size_of_all (branches_of l.branches.now)

abbrev pub decreases-add_in_branch : goal.decreases-add_in_branch
decreases-add_in_branch l = size_of_branch (branch_of l.branch.now)
