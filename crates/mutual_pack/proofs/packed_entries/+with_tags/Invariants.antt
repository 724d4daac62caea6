use Rattle.std.proofs.Common.{length}
use Rattle.mutual_pack.proofs.packed_entries.+with_tags.Given as goal

abbrev pub decreases-with_tags : goal.decreases-with_tags
decreases-with_tags l = length l.tags.now
