use Rattle.std.proofs.Common.{length}
use Rattle.core_sig.proofs.shapes.+recursive_count.Given as goal

abbrev pub decreases-recursive_count : goal.decreases-recursive_count
decreases-recursive_count l = length l.args.now
