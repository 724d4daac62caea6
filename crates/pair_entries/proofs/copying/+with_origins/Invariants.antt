use Rattle.std.proofs.Common.{length}
use Rattle.pair_entries.proofs.copying.+with_origins.Given as goal

abbrev pub decreases-with_origins : goal.decreases-with_origins
decreases-with_origins l = length l.origins.now
