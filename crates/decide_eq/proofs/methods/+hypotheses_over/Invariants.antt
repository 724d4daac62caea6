use Rattle.std.proofs.Common.{length}
use Rattle.decide_eq.proofs.methods.+hypotheses_over.Given as goal

abbrev pub decreases-hypotheses_over : goal.decreases-hypotheses_over
decreases-hypotheses_over l = length l.args.now
