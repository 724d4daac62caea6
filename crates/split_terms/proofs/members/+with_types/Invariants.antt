use Rattle.std.proofs.Common.{length}
use Rattle.split_terms.proofs.members.+with_types.Given as goal

abbrev pub decreases-with_types : goal.decreases-with_types
decreases-with_types l = length l.items.now
