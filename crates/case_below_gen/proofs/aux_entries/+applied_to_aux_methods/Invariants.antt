use Rattle.std.proofs.Common.{length}
use Rattle.case_below_gen.proofs.aux_entries.+applied_to_aux_methods.Given as goal

abbrev pub decreases-applied_to_aux_methods : goal.decreases-applied_to_aux_methods
decreases-applied_to_aux_methods l = length l.cons.now
