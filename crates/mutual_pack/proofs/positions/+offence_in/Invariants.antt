use Rattle.std.proofs.Common.{length}
use Rattle.mutual_pack.proofs.positions.+offence_in.Given as goal

abbrev pub decreases-offence_in : goal.decreases-offence_in
decreases-offence_in l = length l.cons.now
