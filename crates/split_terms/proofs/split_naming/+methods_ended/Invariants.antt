use Rattle.std.proofs.Common.{length}
use Rattle.split_terms.proofs.split_naming.+methods_ended.Given as goal

abbrev pub decreases-methods_ended : goal.decreases-methods_ended
decreases-methods_ended l = length l.cons.now
