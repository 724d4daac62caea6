use Rattle.std.proofs.Common.{length}
use Rattle.run_terms.proofs.standings.+placed_types.Given as goal

abbrev pub decreases-placed_types : goal.decreases-placed_types
decreases-placed_types l = length l.equations.now
