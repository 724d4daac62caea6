use Rattle.std.proofs.Common.{length}
use Rattle.mutual_pack.proofs.packed_entries.+owners_from.Given as goal

abbrev pub decreases-owners_from : goal.decreases-owners_from
decreases-owners_from l = length l.members.now
