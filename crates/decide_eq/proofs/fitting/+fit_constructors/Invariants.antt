use Rattle.std.proofs.Common.{length}
use Rattle.decide_eq.proofs.fitting.+fit_constructors.Given as goal

abbrev pub decreases-fit_constructors : goal.decreases-fit_constructors
decreases-fit_constructors l = length l.cons.now
