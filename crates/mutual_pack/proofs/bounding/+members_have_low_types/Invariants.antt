use Rattle.std.proofs.Common.{length}
use Rattle.mutual_pack.proofs.bounding.+members_have_low_types.Given as goal

abbrev pub decreases-members_have_low_types : goal.decreases-members_have_low_types
decreases-members_have_low_types l = length l.members.now
