use Rattle.core_terms.specs.TreeMeanings.{branch_of, branches_of, case_tree_of}
use Rattle.tree_cases.specs.Sizes.{size_of, size_of_all, size_of_branch}
use Rattle.tree_cases.proofs.tree_texts.+trees.Given as goal

abbrev pub decreases-add_tree : goal.decreases-add_tree
decreases-add_tree l = size_of (case_tree_of l.tree.now)

abbrev pub decreases-add_branches : goal.decreases-add_branches
decreases-add_branches l = size_of_all (branches_of l.branches.now)

abbrev pub decreases-add_branch : goal.decreases-add_branch
decreases-add_branch l = size_of_branch (branch_of l.branch.now)
