use Rattle.std.proofs.Common.{length}
use Rattle.core_sig.proofs.eliminator.+methods_over.Given as goal

abbrev pub decreases-methods_over : goal.decreases-methods_over
decreases-methods_over l = length l.cons.now
