use Rattle.std.proofs.Common.{length}
use Rattle.pair_entries.proofs.copying.+with_steps.Given as goal

abbrev pub decreases-with_steps : goal.decreases-with_steps
decreases-with_steps l = length l.steps.now
