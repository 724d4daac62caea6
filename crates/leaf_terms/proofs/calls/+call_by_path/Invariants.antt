use Rattle.std.proofs.Common.{length}
use Rattle.leaf_terms.proofs.calls.+call_by_path.Given as goal

abbrev pub decreases-call_by_path : goal.decreases-call_by_path
decreases-call_by_path l = length l.belows.now
