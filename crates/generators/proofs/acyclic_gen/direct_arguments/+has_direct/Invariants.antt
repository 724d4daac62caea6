use Rattle.std.proofs.Common.{length}
use Rattle.generators.proofs.acyclic_gen.direct_arguments.+has_direct.Given as goal

abbrev pub decreases-has_direct : goal.decreases-has_direct
decreases-has_direct l = length l.args.now
