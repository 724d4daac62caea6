use Rattle.std.proofs.Common.{length}
use Rattle.mutual_pack.proofs.packed_entries.+with_constructors.Given as goal

abbrev pub decreases-with_constructors : goal.decreases-with_constructors
decreases-with_constructors l = length l.cons.now
