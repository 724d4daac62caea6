use Rattle.std.proofs.Common.{length}
use Rattle.mutual_pack.proofs.bounding.+are_low_entries.Given as goal

abbrev pub decreases-are_low_entries : goal.decreases-are_low_entries
decreases-are_low_entries l = length l.entries.now
