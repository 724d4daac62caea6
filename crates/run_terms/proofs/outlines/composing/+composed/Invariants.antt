use Rattle.std.proofs.Common.{length}
use Rattle.run_terms.proofs.outlines.composing.+composed.Given as goal

abbrev pub decreases-composed : goal.decreases-composed
decreases-composed l = length l.own.now
