use Rattle.std.proofs.Common.{length}
use Rattle.run_terms.proofs.placing.+placed_telescope.Given as goal

abbrev pub decreases-placed_telescope : goal.decreases-placed_telescope
decreases-placed_telescope l = length l.tele.now
