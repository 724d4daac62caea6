use Rattle.std.proofs.Common.{length}
use Rattle.with_abstraction.proofs.needed.+is_mentioned.Given as goal

abbrev pub decreases-is_mentioned : goal.decreases-is_mentioned
decreases-is_mentioned l = length l.levels.now
