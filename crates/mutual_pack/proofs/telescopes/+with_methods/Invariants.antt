use Rattle.std.proofs.Common.{length}
use Rattle.mutual_pack.proofs.telescopes.+with_methods.Given as goal

abbrev pub decreases-with_methods : goal.decreases-with_methods
decreases-with_methods l = length l.cons.now
