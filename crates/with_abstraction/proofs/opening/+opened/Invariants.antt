use Rattle.std.proofs.Common.{length}
use Rattle.with_abstraction.proofs.opening.+opened.Given as goal

abbrev pub decreases-opened : goal.decreases-opened
decreases-opened l = length l.types.now
