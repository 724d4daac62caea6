use Rattle.std.proofs.Common.{length}
use Rattle.generators.proofs.acyclic_gen.acyclic_entries.+applied_to_acyclic_methods.Given as goal

abbrev pub decreases-applied_to_acyclic_methods : goal.decreases-applied_to_acyclic_methods
decreases-applied_to_acyclic_methods l = length l.cons.now
