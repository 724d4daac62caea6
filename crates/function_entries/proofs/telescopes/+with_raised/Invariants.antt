use Rattle.std.proofs.Common.{length}
use Rattle.function_entries.proofs.telescopes.+with_raised.Given as goal

abbrev pub decreases-with_raised : goal.decreases-with_raised
decreases-with_raised l = length l.tele.now
