use Rattle.std.proofs.Common.{length}
use Rattle.generators.proofs.acyclic_gen.lengths.+have_small_arguments.Given as goal

abbrev pub decreases-have_small_arguments : goal.decreases-have_small_arguments
decreases-have_small_arguments l = length l.cons.now
