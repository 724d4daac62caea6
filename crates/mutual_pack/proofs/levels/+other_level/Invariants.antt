use Rattle.std.proofs.Common.{length}
use Rattle.mutual_pack.proofs.levels.+other_level.Given as goal

abbrev pub decreases-other_level : goal.decreases-other_level
decreases-other_level l = length l.members.now
