use Rattle.std.proofs.Common.{length}
use Rattle.generators.proofs.acyclic_gen.direct_entries.+applied_to_direct_methods.Given as goal

abbrev pub decreases-applied_to_direct_methods : goal.decreases-applied_to_direct_methods
decreases-applied_to_direct_methods l = length l.cons.now
