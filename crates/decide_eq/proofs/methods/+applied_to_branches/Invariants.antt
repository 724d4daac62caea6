use Rattle.std.proofs.Common.{length}
use Rattle.decide_eq.proofs.methods.+applied_to_branches.Given as goal

abbrev pub decreases-applied_to_branches : goal.decreases-applied_to_branches
decreases-applied_to_branches l = length l.cons.now
