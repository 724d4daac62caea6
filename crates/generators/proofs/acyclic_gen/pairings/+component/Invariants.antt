use Rattle.std.proofs.Common.{length}
use Rattle.generators.proofs.acyclic_gen.pairings.+component.Given as goal

abbrev pub decreases-component : goal.decreases-component
decreases-component l = length l.directs.now
