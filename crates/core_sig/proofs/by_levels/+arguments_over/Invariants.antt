use Rattle.std.proofs.Common.{length}
use Rattle.core_sig.proofs.by_levels.+arguments_over.Given as goal

abbrev pub decreases-arguments_over : goal.decreases-arguments_over
decreases-arguments_over l = length l.args.now
