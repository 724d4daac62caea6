use Rattle.std.proofs.Common.{length}
use Rattle.case_below_gen.proofs.branches.+branches_over.Given as goal

abbrev pub decreases-branches_over : goal.decreases-branches_over
decreases-branches_over l = length l.cons.now
