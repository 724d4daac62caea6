use Rattle.std.proofs.Common.{length}
use Rattle.mutual_pack.proofs.bounding.+have_low_types.Given as goal

abbrev pub decreases-have_low_types : goal.decreases-have_low_types
decreases-have_low_types l = length l.cons.now
