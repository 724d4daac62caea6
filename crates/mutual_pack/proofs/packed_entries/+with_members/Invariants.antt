use Rattle.std.proofs.Common.{length}
use Rattle.mutual_pack.proofs.packed_entries.+with_members.Given as goal

abbrev pub decreases-with_members : goal.decreases-with_members
decreases-with_members l = length l.members.now
