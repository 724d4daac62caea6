use Rattle.std.proofs.Common.{length}
use Rattle.mutual_pack.proofs.packed_entries.+repeated.Given as goal

abbrev pub decreases-repeated : goal.decreases-repeated
decreases-repeated l = length l.cons.now
