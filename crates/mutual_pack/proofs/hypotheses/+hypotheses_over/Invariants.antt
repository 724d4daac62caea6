use Rattle.std.proofs.Common.{length}
use Rattle.mutual_pack.proofs.hypotheses.+hypotheses_over.Given as goal

abbrev pub decreases-hypotheses_over : goal.decreases-hypotheses_over
decreases-hypotheses_over l = length l.args.now
