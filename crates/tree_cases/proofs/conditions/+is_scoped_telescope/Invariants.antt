use Rattle.std.proofs.Common.{length}
use Rattle.tree_cases.proofs.conditions.+is_scoped_telescope.Given as goal

abbrev pub decreases-is_scoped_telescope : goal.decreases-is_scoped_telescope
decreases-is_scoped_telescope l = length l.tele.now
