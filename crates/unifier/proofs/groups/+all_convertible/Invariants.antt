use Rattle.std.proofs.Common.{length}
use Rattle.unifier.proofs.groups.+all_convertible.Given as goal

abbrev pub decreases-all_convertible : goal.decreases-all_convertible
decreases-all_convertible l = length l.others.now
