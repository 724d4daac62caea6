use Rattle.std.proofs.Common.{◌+◌}
use Rattle.core_terms.specs.TreeMeanings.{branch_of, branches_of, case_tree_of}
use Rattle.function_entries.specs.Sizes.{size_of, size_of_all, size_of_branch}
use Rattle.function_entries.proofs.tree_naming.+names.Given as goal

abbrev pub decreases-tree_names : goal.decreases-tree_names
decreases-tree_names l = size_of (case_tree_of l.tree.now)

abbrev pub decreases-names_of_split : goal.decreases-names_of_split
decreases-names_of_split l = 1 + size_of_all (branches_of l.branches.now)

abbrev pub decreases-branches_names : goal.decreases-branches_names
decreases-branches_names l = size_of_all (branches_of l.branches.now)

abbrev pub decreases-branch_names : goal.decreases-branch_names
decreases-branch_names l = size_of_branch (branch_of l.branch.now)
