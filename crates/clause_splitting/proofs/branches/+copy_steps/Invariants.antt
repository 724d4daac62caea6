use Rattle.std.proofs.Common.{length}
use Rattle.clause_splitting.proofs.branches.+copy_steps.Given as goal

abbrev pub decreases-copy_steps : goal.decreases-copy_steps
decreases-copy_steps l = length l.steps.now
