use Rattle.std.proofs.Common.{length}
use Rattle.case_below_gen.proofs.components.+tuple.Given as goal

abbrev pub decreases-tuple : goal.decreases-tuple
decreases-tuple l = length l.args.now
