use Rattle.std.proofs.Common.{length}
use Rattle.mutual_pack.proofs.positions.+offence.Given as goal

abbrev pub decreases-offence : goal.decreases-offence
decreases-offence l = length l.members.now
