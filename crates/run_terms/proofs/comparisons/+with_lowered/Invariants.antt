use Rattle.std.proofs.Common.{length}
use Rattle.run_terms.proofs.comparisons.+with_lowered.Given as goal

abbrev pub decreases-with_lowered : goal.decreases-with_lowered
decreases-with_lowered l = length l.terms.now
