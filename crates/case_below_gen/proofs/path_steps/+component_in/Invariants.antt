use Rattle.std.proofs.Common.{length}
use Rattle.case_below_gen.proofs.path_steps.+component_in.Given as goal

abbrev pub decreases-component_in : goal.decreases-component_in
decreases-component_in l = length l.args.now
