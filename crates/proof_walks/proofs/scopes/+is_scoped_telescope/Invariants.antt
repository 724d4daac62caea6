use Rattle.std.proofs.Common.{length}
use Rattle.proof_walks.proofs.scopes.+is_scoped_telescope.Given as goal

abbrev pub decreases-is_scoped_telescope : goal.decreases-is_scoped_telescope
decreases-is_scoped_telescope l = length l.tele.now
