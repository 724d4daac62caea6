use Rattle.std.proofs.Common.{length}
use Rattle.shared_text.proofs.low_terms.+have_low_types.Given as goal

abbrev pub decreases-have_low_types : goal.decreases-have_low_types
decreases-have_low_types l = length l.cons.now
