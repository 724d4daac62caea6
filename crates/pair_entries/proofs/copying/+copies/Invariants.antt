use Rattle.core_terms.specs.TreeMeanings.{branch_of, branches_of, case_tree_of}
use Rattle.function_entries.specs.Sizes.{size_of, size_of_all, size_of_branch}
use Rattle.pair_entries.proofs.copying.+copies.Given as goal

abbrev pub decreases-copy_tree : goal.decreases-copy_tree
decreases-copy_tree l = size_of (case_tree_of l.tree.now)

abbrev pub decreases-with_branches : goal.decreases-with_branches
decreases-with_branches l = size_of_all (branches_of l.branches.now)

abbrev pub decreases-copy_branch : goal.decreases-copy_branch
decreases-copy_branch l = size_of_branch (branch_of l.branch.now)
