use Rattle.std.proofs.Common.{length}
use Rattle.run_terms.proofs.level_lists.+with_all.Given as goal

abbrev pub decreases-with_all : goal.decreases-with_all
decreases-with_all l = length l.others.now
