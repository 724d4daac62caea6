use Rattle.std.proofs.Common.{length}
use Rattle.generators.proofs.acyclic_gen.pushing.+applied_to_push_methods.Given as goal

abbrev pub decreases-applied_to_push_methods : goal.decreases-applied_to_push_methods
decreases-applied_to_push_methods l = length l.cons.now
