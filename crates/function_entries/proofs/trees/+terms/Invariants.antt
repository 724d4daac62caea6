use Rattle.std.proofs.Common.{◌+◌}
use Rattle.core_terms.specs.TreeMeanings.{branch_of, branches_of, case_tree_of}
use Rattle.function_entries.specs.Sizes.{size_of, size_of_all, size_of_branch}
use Rattle.function_entries.proofs.trees.+terms.Given as goal

abbrev pub decreases-tree_term : goal.decreases-tree_term
decreases-tree_term l = size_of (case_tree_of l.tree.now)

abbrev pub decreases-split_at : goal.decreases-split_at
decreases-split_at l = 1 + size_of_all (branches_of l.branches.now)

abbrev pub decreases-with_ends : goal.decreases-with_ends
decreases-with_ends l = size_of_all (branches_of l.branches.now)

abbrev pub decreases-with_end : goal.decreases-with_end
decreases-with_end l = size_of_branch (branch_of l.branch.now)
