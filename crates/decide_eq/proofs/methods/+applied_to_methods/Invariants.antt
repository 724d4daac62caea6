use Rattle.std.proofs.Common.{length}
use Rattle.decide_eq.proofs.methods.+applied_to_methods.Given as goal

abbrev pub decreases-applied_to_methods : goal.decreases-applied_to_methods
decreases-applied_to_methods l = length l.cons.now
