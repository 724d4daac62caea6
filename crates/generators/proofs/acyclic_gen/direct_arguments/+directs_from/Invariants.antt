use Rattle.std.proofs.Common.{length}
use Rattle.generators.proofs.acyclic_gen.direct_arguments.+directs_from.Given as goal

abbrev pub decreases-directs_from : goal.decreases-directs_from
decreases-directs_from l = length l.args.now
