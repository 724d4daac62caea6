use Rattle.std.proofs.Common.{length}
use Rattle.mutual_pack.proofs.inductions.+induction_entries_from.Given as goal

abbrev pub decreases-induction_entries_from : goal.decreases-induction_entries_from
decreases-induction_entries_from l = length l.members.now
