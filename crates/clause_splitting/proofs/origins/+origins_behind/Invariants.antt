use Rattle.std.proofs.Common.{length}
use Rattle.clause_splitting.proofs.origins.+origins_behind.Given as goal

abbrev pub decreases-origins_behind : goal.decreases-origins_behind
decreases-origins_behind l = length l.steps.now
