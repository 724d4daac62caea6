use Rattle.std.proofs.Common.{length}
use Rattle.mutual_pack.proofs.packed_entries.+member_entries.Given as goal

abbrev pub decreases-member_entries : goal.decreases-member_entries
decreases-member_entries l = length l.members.now
