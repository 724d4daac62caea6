use Rattle.std.proofs.Common.{length}
use Rattle.run_terms.proofs.runs.+with_copies.Given as goal

abbrev pub decreases-with_copies : goal.decreases-with_copies
decreases-with_copies l = length l.equations.now
