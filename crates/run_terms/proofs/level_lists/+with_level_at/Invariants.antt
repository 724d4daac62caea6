use Rattle.std.proofs.Common.{length}
use Rattle.run_terms.proofs.level_lists.+with_level_at.Given as goal

abbrev pub decreases-with_level_at : goal.decreases-with_level_at
decreases-with_level_at l = length l.positions.now
