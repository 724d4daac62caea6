use Rattle.std.proofs.Common.{◌+◌, ◌*◌, length}
use Rattle.clause_splitting.proofs.trees.+grow.Given as goal

abbrev pub decreases-grow : goal.decreases-grow
decreases-grow l = 36893488147419103232 * l.patterns + 36893488147419103232

abbrev pub decreases-split_at : goal.decreases-split_at
decreases-split_at l = 36893488147419103232 * l.patterns + 36893488147419103231

abbrev pub decreases-grow_branches : goal.decreases-grow_branches
decreases-grow_branches l = 36893488147419103232 * l.patterns + 2 + length l.runs.now

abbrev pub decreases-grow_branch : goal.decreases-grow_branch
decreases-grow_branch l = 36893488147419103232 * l.patterns + 1
