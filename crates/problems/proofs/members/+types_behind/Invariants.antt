use Rattle.std.proofs.Common.{length}
use Rattle.problems.proofs.members.+types_behind.Given as goal

abbrev pub decreases-types_behind : goal.decreases-types_behind
decreases-types_behind l = length l.items.now
