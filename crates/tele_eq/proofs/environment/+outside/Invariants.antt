use Rattle.std.proofs.Common.{length}
use Rattle.tele_eq.proofs.environment.+outside.Given as goal

abbrev pub decreases-outside : goal.decreases-outside
decreases-outside l = length l.terms.now
