use Rattle.std.proofs.Common.{length}
use Rattle.pair_entries.proofs.second_step.+with_raised.Given as goal

abbrev pub decreases-with_raised : goal.decreases-with_raised
decreases-with_raised l = length l.terms.now
