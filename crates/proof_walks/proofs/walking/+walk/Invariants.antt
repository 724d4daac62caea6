use Rattle.std.proofs.Common.{◌+◌, ◌*◌, length}
use Rattle.core_terms.specs.TreeMeanings.{branch_of, branches_of, case_tree_of}
use Rattle.proof_walks.specs.Sizes.{room_for, size_of, size_of_all, size_of_branch}
use Rattle.proof_walks.proofs.walking.+walk.Given as goal

abbrev pub decreases-walk_tree : goal.decreases-walk_tree
decreases-walk_tree l = 147573952589676412928 * size_of (case_tree_of l.tree.now)

abbrev pub decreases-walk_node : goal.decreases-walk_node
decreases-walk_node l = 147573952589676412928 * size_of_all (branches_of l.node.branches.now) + room_for l.node.splits + 16

abbrev pub decreases-at_other : goal.decreases-at_other
decreases-at_other l = 147573952589676412928 * size_of_all (branches_of l.node.branches.now) + room_for l.node.splits + 12

abbrev pub decreases-take_branch : goal.decreases-take_branch
decreases-take_branch l = 147573952589676412928 * size_of_all (branches_of l.branches.now)

abbrev pub decreases-enter_branch : goal.decreases-enter_branch
decreases-enter_branch l = 147573952589676412928 * size_of_branch (branch_of l.branch.now)

abbrev pub decreases-split_variable : goal.decreases-split_variable
decreases-split_variable l = 147573952589676412928 * size_of_all (branches_of l.node.branches.now) + room_for l.node.splits + 8

abbrev pub decreases-solved_branches : goal.decreases-solved_branches
decreases-solved_branches l = 147573952589676412928 * size_of_all (branches_of l.node.branches.now) + 32 + length l.runs.now

abbrev pub decreases-with_solved : goal.decreases-with_solved
decreases-with_solved l = 147573952589676412928 * size_of_all (branches_of l.node.branches.now) + 20
