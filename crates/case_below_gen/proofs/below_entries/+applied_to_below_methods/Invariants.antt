use Rattle.std.proofs.Common.{length}
use Rattle.case_below_gen.proofs.below_entries.+applied_to_below_methods.Given as goal

abbrev pub decreases-applied_to_below_methods : goal.decreases-applied_to_below_methods
decreases-applied_to_below_methods l = length l.cons.now
