use Rattle.std.proofs.Common.{length}
use Rattle.mutual_pack.proofs.fitting.+have_few_arguments.Given as goal

abbrev pub decreases-have_few_arguments : goal.decreases-have_few_arguments
decreases-have_few_arguments l = length l.cons.now
