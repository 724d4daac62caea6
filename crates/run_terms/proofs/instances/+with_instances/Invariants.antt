use Rattle.std.proofs.Common.{length}
use Rattle.run_terms.proofs.instances.+with_instances.Given as goal

abbrev pub decreases-with_instances : goal.decreases-with_instances
decreases-with_instances l = length l.terms.now
