use Rattle.std.proofs.Common.{length}
use Rattle.mutual_pack.proofs.recursions.+applied_to_recursions.Given as goal

abbrev pub decreases-applied_to_recursions : goal.decreases-applied_to_recursions
decreases-applied_to_recursions l = length l.args.now
