use Rattle.std.proofs.Common.{length}
use Rattle.mutual_pack.proofs.packing.+constructor_count.Given as goal

abbrev pub decreases-constructor_count : goal.decreases-constructor_count
decreases-constructor_count l = length l.members.now
