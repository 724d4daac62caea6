use Rattle.std.proofs.Common.{length}
use Rattle.case_below_gen.proofs.components.+components_over.Given as goal

abbrev pub decreases-components_over : goal.decreases-components_over
decreases-components_over l = length l.args.now
