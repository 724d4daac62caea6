use Rattle.std.proofs.Common.{length}
use Rattle.mutual_pack.proofs.equations.+inductions_in.Given as goal

abbrev pub decreases-inductions_in : goal.decreases-inductions_in
decreases-inductions_in l = length l.members.now
